-- Taking room in reservations: each stays as it was, and none has less room.
use Rattle.std.proofs.Common.{◌≡◌, ℕ, zero, suc, ◌+◌, ◌<◌, List, [], ◌∷◌, drop, take, length, get_or, set, Some, refl, drop-cons, add-one, sym, ap, subst, ◌∙◌, inl, inr, arith, slice_get}
use Rattle.drm_types.specs.declared.access.Access.{Access}
use Rattle.drm_lists.proofs.Changed.{get_set_same, get_set_other, get_set_cases}
use Rattle.drm_lists.proofs.Places.{at_index, get_take}
use Rattle.std.specs.Prelude.{IsTrue}
use Rattle.std.proofs.lemmas.List.{length-set}
use Rattle.std.proofs.lemmas.Bool.{cases_eq}
use Rattle.drm_resv.specs.Reservation.{WithRoom}
use Rattle.drm_core.specs.Planning.{MoreRoom, HasRoomFor}

pub more_trans : (a b c : List WithRoom) → MoreRoom a b → MoreRoom b c → MoreRoom a c
more_trans a b c ab bc = record {
  count = bc.count ∙ ab.count;
  each = λ k r at.
      let m = ab.each k r at in
      let n = bc.each k m.0 m.1 in
      (n.0, n.1, n.2 ∙ m.2, λ room. n.3 (m.3 room));
}

-- one reservation that keeps what it had, and its room
pub more_set : (rs : List WithRoom) (k : ℕ) (r new : WithRoom) → slice_get rs k ≡ Some r → new.kept ≡ r.kept → (IsTrue r.has_room → IsTrue new.has_room) → MoreRoom rs (set rs k new)
more_set rs k r new at kept room = record {
  count = length-set rs k new;
  each = λ j x at_j.
      elim (cases_eq j k) [
        | inl same ↦
            let at_k : slice_get rs k ≡ Some x = subst (λ n. slice_get rs n ≡ Some x) same at_j in
            let is : x ≡ r = cc (at_k, at) in (
              new,
              subst (λ n. slice_get (set rs k new) n ≡ Some new) (sym same) (get_set_same rs k r new at),
              kept ∙ ap (λ (z : WithRoom). z.kept) (sym is),
              λ had. room (subst (λ (z : WithRoom). IsTrue z.has_room) is had),
            )
        | inr apart ↦ (x, get_set_other rs k j new apart ∙ at_j, refl, λ had. had)
      ];
}

-- the next element of a list, and what is behind it
pub drop_next : {X : Type 0} (xs : List X) (i : ℕ) (x : X) → x ≡ get_or xs i x → i < length xs → (drop i xs ≡ x ∷ drop (i + 1) xs) × (slice_get xs i ≡ Some x)
drop_next xs i x is lt = (
  drop-cons xs i x lt ∙ (ap (λ z. z ∷ drop (suc i) xs) (sym is) ∙ ap (λ n. x ∷ drop n xs) (sym (add-one i))),
  at_index xs i x is lt,
)

-- what stands in the front of a list
pub from_take : {X : Type 0} (xs : List X) (n k : ℕ) (x : X) → slice_get (take n xs) k ≡ Some x → (slice_get xs k ≡ Some x) × (k < n)
from_take [] zero k x at = absurd (cc (at))
from_take [] (suc n) k x at = absurd (cc (at))
from_take (y ∷ xs) zero k x at = absurd (cc (at))
from_take (y ∷ xs) (suc n) zero x at = (at, omega arith)
from_take (y ∷ xs) (suc n) (suc k) x at = let r = from_take xs n k x at in (r.0, let lt = r.1 in omega (arith, lt))

-- one more buffer has room, and the others keep theirs
pub room_next : (declared : List (ℕ × Access)) (i place : ℕ) (d : ℕ × Access) (rs : List WithRoom) (r new : WithRoom) → d ≡ get_or declared i d → i < length declared
    → place ≡ d.0 → slice_get rs place ≡ Some r → (IsTrue r.has_room → IsTrue new.has_room) → IsTrue new.has_room → HasRoomFor (take i declared) rs
    → HasRoomFor (take (i + 1) declared) (set rs place new)
room_next declared i place d rs r new d_is lt place_is at stays has before k e x at_k at_x =
    elim (get_set_cases rs place e.0 r new x at at_x) [
      | inl here ↦ subst (λ (z : WithRoom). IsTrue z.has_room) (sym here.1) has
      | inr there ↦
          elim (cases_eq k i) [
            | inl same ↦
                let is : slice_get declared i ≡ Some e = subst (λ n. slice_get declared n ≡ Some e) same (from_take declared (i + 1) k e at_k).0 in
                let e_is : e ≡ d = let d_at = (drop_next declared i d d_is lt).1 in cc (is, d_at) in
                absurd (there.0 (ap (λ (z : ℕ × Access). z.0) e_is ∙ sym place_is))
            | inr apart ↦
                let t = from_take declared (i + 1) k e at_k in
                let less : k < i = let le = t.1 in omega (arith, le, apart) in
                before k e x (get_take declared i k less ∙ t.0) there.1
          ]
    ]
