use Rattle.std.proofs.Common.{◌≡◌, ◌++◌, drop, take}
use Rattle.drm_rules.specs.Rules.{broken, broken_from}
use Rattle.drm_rules.specs.Tables.{AreLanes}
use Rattle.drm_rules.proofs.judging.judge.Given as goal

abbrev pub invariant-loop-at : goal.invariant-loop-at
invariant-loop-at l = record {
  lanes : AreLanes l.lanes l.index (take l.at-index l.log);
  found : l.found.items ++ broken_from l.demands l.index (take l.at-index l.log) (drop l.at-index l.log) ≡ broken l.demands l.index;
}
