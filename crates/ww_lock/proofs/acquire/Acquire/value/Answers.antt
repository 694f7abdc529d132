use Rattle.std.proofs.Common.{rules, arith, ◌≡◌, ℕ, zero, suc, List, [], ◌∷◌, set, refl, sym, ap, ◌∙◌}
use mathlib.Core.Option.{some, some-injective, some-ne-none}
use lib.ListN.{get_elem?}
use Rattle.atomic_table.proofs.Lists.{at_index}
use Rattle.ww_lock.specs.Seats.{behind_pivot}
use Rattle.ww_lock.specs.Held.{IsSameKeys, index_of}
use Rattle.ww_lock.specs.Lending.{number_or, with_value}
use Rattle.ww_lock.proofs.Finding.{below, apart_same, within_same, emptied_same, keys_set}
use Rattle.ww_lock.proofs.Lists.{at_in}
use Rattle.ww_lock.proofs.acquire.Acquire.value.Goals as goal

pub unreachable-requires : goal.unreachable-requires
unreachable-requires g c = let h = c.requires in c.in_default.ensures.found h.1.0 (at_in c.args.self.now.seat.held.items h.0 (c.args.buffer, h.1.0) h.1.1)

pub value_at-requires : goal.value_at-requires
value_at-requires g c = let at = c.in-Some.ensures.found in let l = below c.args.self.now.seat.held.items c.in-Some.i (c.args.buffer, at.0) at.1 in first_of (search rules, omega arith)

number_is : {A : Type 0} (xs : List (ℕ × A)) (i b : ℕ) (x : A) → get_elem? xs i ≡ some (b, x) → number_or xs i ≡ b
number_is [] i b x e = absurd (some-ne-none (b, x) (sym e))
number_is (p ∷ xs) zero b x e = ap (λ z. z.0) (some-injective p (b, x) e)
number_is (p ∷ xs) (suc i) b x e = number_is xs i b x e

pub returns : goal.returns
returns g c = let a = c.args.self.now in let xs = a.seat.held.items in let b = c.args.buffer in let i = c.in-Some.i in let at = c.in-Some.ensures.found in let first : i ≡ index_of b xs = c.in-Some.ensures.first in let r = c.value_at.result.now in
    let number : number_or xs i ≡ b = number_is xs i b at.0 at.1 in let l = below xs i (b, at.0) at.1 in let here = ap (get_elem? xs) (sym first) ∙ at.1 in (
      (refl, λ w k. with_value a (first k) (number k) w),
      record {
        writes_back = tt;
        value = ap (get_elem? xs) (sym first) ∙ (at_index xs i (number_or xs i, r) l c.value_at.ensures.value ∙ ap (λ (n : ℕ). some (n, r)) number);
        holds = λ inside z x h. let st = h.sits in let ys = set xs (index_of b xs) (b, x) in let same : IsSameKeys ys xs = keys_set xs (index_of b xs) b at.0 x here in record {
          sits = record {
            seated = st.seated;
            keys = st.keys ∙ sym same;
            apart = apart_same ys xs same st.apart;
            within = within_same z.slots ys xs same st.within;
            hands = st.hands ∙ ap (behind_pivot inside) (emptied_same xs ys (sym same));
            inside = st.inside;
            saw = st.saw;
          };
          own = record { drawn = h.own.drawn; counted = h.own.counted; room = h.own.room };
        };
      },
    )
