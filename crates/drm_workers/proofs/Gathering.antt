-- The passes of workers are joined one by one.
use Rattle.std.proofs.Common.{◌≡◌, List, [], ◌∷◌, ◌++◌, All, IsPermutation, Vec, Global, ℕ, inl, inr, map, refl, sym, ap, ◌∙◌, subst}
use Rattle.std.proofs.lemmas.List.{append-nil, append_assoc}
use Rattle.std.proofs.lemmas.List.Elements.{All-head, All-tail}
use Rattle.std.proofs.lemmas.List.Sorted.{IsPermutation-append_left, IsPermutation-refl, IsPermutation-sym, IsPermutation-trans}
use Rattle.ww_lock.specs.Rule.{In}
use Rattle.ww_lock.specs.Steps.{IsChain}
use Rattle.drm_sched.specs.Marks.{MarkedDevice}
use Rattle.drm_gpu.specs.Laws.{reflexive, transitive}
use Rattle.drm_gpu.specs.Passes.{GpuState, GrowsTo, IsJoinedOf, PassState}
use Rattle.drm_workers.specs.Numbers.{IsOrdered, JoinedArmings, armings}
use Rattle.drm_workers.specs.Reports.{all_items}
use Rattle.drm_workers.specs.declared.work.Done.{Done}
use Rattle.drm_workers.specs.Gathers.{Gathers, shares_of}
use Rattle.drm_workers.specs.Works.{Tells}
use Rattle.drm_workers.proofs.Lists.{one_more}

-- what fits the workers that are left, fits all of them
pub record FitLeft (gpu : GpuState) (own : List ℕ) (all left : List Done) (pass : PassState) : Type 0 where
  pub device : pass.gpu ≡ gpu
  pub part : pass.part ++ shares_of left ≡ own ++ shares_of all
  pub ordered : IsOrdered pass
  pub armed : IsPermutation (armings pass.calls ++ all_items (λ d. d.armed.items) left) (all_items (λ d. d.armed.items) all)
  pub later : (e : MarkedDevice) → GrowsTo pass.last e → ((d : Done) → In d left → GrowsTo d.pass.last e) → (d : Done) → In d all → GrowsTo d.pass.last e

pub none_joined : (gpu : GpuState) (all : List Done) (pass : PassState) → pass.gpu ≡ gpu → pass.calls ≡ [] → FitLeft gpu pass.part all all pass
none_joined gpu all pass same none = record {
  device = same;
  part = refl;
  ordered = record {
    chain = subst (λ cs. IsChain GrowsTo cs) (sym none) tt;
    lefts = λ c h. absurd (subst (λ cs. In c cs) none h);
  };
  armed = subst (λ cs. IsPermutation (armings cs ++ all_items (λ d. d.armed.items) all) (all_items (λ d. d.armed.items) all)) (sym none) (IsPermutation-refl (all_items (λ d. d.armed.items) all));
  later = λ e g each d h. each d h;
}

pub one_joined : JoinedArmings → (gpu : GpuState) (own : List ℕ) (all left : List Done) (done : Done) (pass new : PassState) → Tells gpu done → IsJoinedOf pass done.pass new
    → FitLeft gpu own all (done ∷ left) pass → FitLeft gpu own all left new
one_joined law gpu own all left done pass new tells joined fit =
    let both = law pass done.pass new joined in
    let was = armings pass.calls in let numbers = done.armed.items in let rest = all_items (λ (d : Done). d.armed.items) left in let whole = all_items (λ (d : Done). d.armed.items) all in
    let now : IsPermutation (was ++ numbers) (armings new.calls) = subst (λ ns. IsPermutation (was ++ ns) (armings new.calls)) tells.1 both.1 in
    let behind : IsPermutation ((was ++ numbers) ++ rest) (armings new.calls ++ rest) = IsPermutation-append_left rest (was ++ numbers) (armings new.calls) now in
    let before : IsPermutation ((was ++ numbers) ++ rest) whole = subst (λ ns. IsPermutation ns whole) (sym (append_assoc was numbers rest)) fit.armed in
    record {
      device = joined.gpu ∙ fit.device;
      part = ap (λ ds. ds ++ shares_of left) joined.part ∙ (append_assoc pass.part done.pass.part (shares_of left) ∙ fit.part);
      ordered = both.0;
      armed = IsPermutation-trans (armings new.calls ++ rest) ((was ++ numbers) ++ rest) whole (IsPermutation-sym ((was ++ numbers) ++ rest) (armings new.calls ++ rest) behind) before;
      later = λ e g each.
          fit.later e (transitive pass.last new.last e joined.later.0 g)
          (λ d h. elim h [
            | inl same ↦ subst (λ (w : Done). GrowsTo w.pass.last e) (sym same) (transitive done.pass.last new.last e joined.later.1 g)
            | inr more ↦ each d more
          ]);
    }

-- and so do the lists of numbers. Each worker that is left tells its own
abbrev pub Gathered : GpuState → List ℕ → List Done → List Done → PassState → List (Vec ℕ Global) → Type 0
Gathered gpu own all left pass armed = FitLeft gpu own all left pass × All (Tells gpu) left × (armed ++ map (λ d. d.armed) left ≡ map (λ d. d.armed) all)

pub one_gathered : JoinedArmings → (gpu : GpuState) (own : List ℕ) (all before left : List Done) (done : Done) (pass new : PassState) (armed more : List (Vec ℕ Global)) → before ≡ done ∷ left
    → IsJoinedOf pass done.pass new → more ≡ armed ++ done.armed ∷ [] → Gathered gpu own all before pass armed → Gathered gpu own all left new more
one_gathered law gpu own all before left done pass new armed more split joined pushed was =
    let now : Gathered gpu own all (done ∷ left) pass armed = subst (λ ds. Gathered gpu own all ds pass armed) split was in (
      one_joined law gpu own all left done pass new (All-head (Tells gpu) done left now.1) joined now.0,
      All-tail (Tells gpu) done left now.1,
      ap (λ xs. xs ++ map (λ (d : Done). d.armed) left) pushed ∙ (one_more armed done.armed (map (λ (d : Done). d.armed) left) ∙ now.2),
    )

pub all_joined : (gpu : GpuState) (own : List ℕ) (all : List Done) (pass : PassState) → FitLeft gpu own all [] pass → Gathers gpu own all pass
all_joined gpu own all pass fit = record {
  device = fit.device;
  part = sym (append-nil pass.part) ∙ fit.part;
  ordered = fit.ordered;
  armed = subst (λ ns. IsPermutation ns (all_items (λ d. d.armed.items) all)) (append-nil (armings pass.calls)) fit.armed;
  later = fit.later pass.last (reflexive pass.last) (λ d h. absurd h);
}
