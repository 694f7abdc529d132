use Rattle.std.proofs.Common.{arith, ap, sym, subst, ◌∙◌, ◌+◌, ◌∷◌}
use Rattle.atomic_table.specs.Table.{rest}
use Rattle.ww_lock.specs.Rule.{In}
use Rattle.ww_lock.specs.Steps.{with_release}
use Rattle.ww_lock.specs.declared.board.Slot.TheVariants.{Gone, Value}
use Rattle.ww_lock.proofs.Kept.{releases}
use Rattle.ww_lock.proofs.steps.release.Goals as goal

pub exchange-requires : goal.exchange-requires
exchange-requires g c = let e = c.number-number.ensures in (c.requires.table.0, (Gone, rw e c.requires.seat))

pub store-requires : goal.store-requires
store-requires g c = let t = c.requires.table in let a = t.0 in let w = t.1 in let n = t.2 in let ward = g.W.Ward in let f = c.requires.fits in let e = c.number-number.ensures in let x = c.exchange.ensures in (
  x.0 ∙ a,
  omega arith,
  rw e (releases ward.facts ward.lawful c.args.shared.now.key.posts _ _ _ c.args.buffer f.0 c.args.value
      (ap (λ m. m.1) x.3 ∙ (λ k. (e k + 1, Value c.args.value) ∷ sym (ap (λ m. rest m.1) x.3) k)) (subst (λ m. In (c.args.buffer, f.0) m.0.lock.owes) (sym x.3) f.1) f.2),
)

pub returns-clause-released : goal.returns-clause-released
returns-clause-released g c = c.store.ensures.2 c.args.buffer (ap (λ k. k + 2) c.number-number.ensures) ∙ ap (λ m. (with_release c.args.buffer m.0, rest m.1)) c.exchange.ensures.3
