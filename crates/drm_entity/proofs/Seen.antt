-- What is seen of one entity, by its links.
use Rattle.std.proofs.Common.{◌≡◌, ℕ, zero, suc, ◌<◌, true, false, ◌==◌, List, [], ◌∷◌, map, length, get_or, replicate, Some, refl, sym, ap, subst, ◌∙◌, arith, slice_get}
use Rattle.std.specs.Prelude.{Contains, option_map}
use Rattle.std.specs.Option.{option_map_or}
use Rattle.std.proofs.lemmas.Bool.{eqb-true}
use Rattle.std.proofs.lemmas.List.{length-map}
use Rattle.std.proofs.lemmas.Option.{slice_get-map, slice_get-get_or, slice_get_within, get_or_from_slice_get}
use Rattle.drm_types.specs.Firsts.{first, is_nil}
use Rattle.drm_entity.specs.declared.entities.Links.{Links}
use Rattle.drm_entity.specs.Rows.{EntityRow, EntityRows, queue_at, last_of, IsFresh}
use Rattle.drm_entity.specs.Linked.{walk, queue_of, row_of, StandsAt, IsLinked}
use Rattle.drm_entity.proofs.Walks.{length_walk}

-- what the fields show
abbrev pub shown : ℕ → List ℕ → List Links → EntityRows
shown places next links = record { places = places; rows = map (row_of next) links }

pub link_at : (places : ℕ) (next : List ℕ) (links : List Links) (now : EntityRows) (e : ℕ) (l : Links) → shown places next links ≡ now → e < length now.rows
    → l ≡ get_or links e l → slice_get links e ≡ Some l
link_at places next links now e l view lt is =
    let count : length now.rows ≡ length links = sym (ap (λ (v : EntityRows). length v.rows) view) ∙ length-map links (row_of next) in
    let inside : e < length links = omega (arith, lt, count) in slice_get-get_or links e l inside ∙ ap Some (sym is)

pub queue_is : (places : ℕ) (next : List ℕ) (links : List Links) (now : EntityRows) (e : ℕ) (l : Links) → shown places next links ≡ now → slice_get links e ≡ Some l
    → queue_at now e ≡ queue_of next l
queue_is places next links now e l view at =
    let there : slice_get (map (row_of next) links) e ≡ Some (row_of next l) = slice_get-map (row_of next) links e ∙ ap (option_map (row_of next)) at in
    sym (ap (λ v. queue_at v e) view) ∙ ap (λ o. option_map_or (λ (r : EntityRow). r.queue) o []) there

pub first_of_walk : (next : List ℕ) (x left : ℕ) → (left ≡ 0 → ⊥) → Some x ≡ first (walk next x left)
first_of_walk next x zero is = absurd (is refl)
first_of_walk next x (suc left) is = refl

pub nil_walk : (next : List ℕ) (x left : ℕ) → (left == 0) ≡ is_nil (walk next x left)
nil_walk next x zero = refl
nil_walk next x (suc left) =
    elim (suc left == 0) as (λ t. (suc left == 0) ≡ t → t ≡ false) [ true ↦ λ is. absurd (omega (arith, eqb-true (suc left) 0 is)) | false ↦ λ is. refl ] refl

last_at : (xs : List ℕ) (k x : ℕ) → length xs ≡ suc k → slice_get xs k ≡ Some x → Some x ≡ last_of xs
last_at [] k x count at = absurd (omega (arith, count))
last_at (y ∷ []) zero x count at = let same : y ≡ x = cc (at) in ap Some (sym same)
last_at (y ∷ []) (suc k) x count at = absurd (omega (arith, count))
last_at (y ∷ (z ∷ xs)) zero x count at = absurd (omega (arith, count))
last_at (y ∷ (z ∷ xs)) (suc k) x count at = ap (λ o. Some (option_map_or (λ n. n) o y)) (last_at (z ∷ xs) k x (omega (arith, count)) at)

pub last_is : (next : List ℕ) (links : List Links) (e : ℕ) (l : Links) → IsLinked next links → slice_get links e ≡ Some l → (l.len ≡ 0 → ⊥)
    → Some l.last ≡ last_of (queue_of next l)
last_is next links e l is at some = by_len l.len refl some
  where
    by_len : (n : ℕ) → l.len ≡ n → (n ≡ 0 → ⊥) → Some l.last ≡ last_of (queue_of next l)
    by_len zero len none = absurd (none refl)
    by_len (suc n) len none = last_at (queue_of next l) n l.last (length_walk next l.first l.len ∙ len) (is.last e l n at len)

-- the ends of a queue have places
pub last_fits : (next : List ℕ) (links : List Links) (e : ℕ) (l : Links) → IsLinked next links → slice_get links e ≡ Some l → (l.len ≡ 0 → ⊥)
    → l.last < length next
last_fits next links e l is at some = by_len l.len refl some
  where
    by_len : (n : ℕ) → l.len ≡ n → (n ≡ 0 → ⊥) → l.last < length next
    by_len zero len none = absurd (none refl)
    by_len (suc n) len none = is.within e n l.last (record { link = l; is_link = at; at = is.last e l n at len })

pub first_fits : (next : List ℕ) (links : List Links) (e : ℕ) (l : Links) → IsLinked next links → slice_get links e ≡ Some l → (l.len ≡ 0 → ⊥)
    → l.first < length next
first_fits next links e l is at some = by_len l.len refl some
  where
    by_len : (n : ℕ) → l.len ≡ n → (n ≡ 0 → ⊥) → l.first < length next
    by_len zero len none = absurd (none refl)
    by_len (suc n) len none =
        is.within e zero l.first (record { link = l; is_link = at; at = ap (λ k. slice_get (walk next l.first k) zero) len })

-- a number that is fresh stands nowhere
pub fresh_nowhere : (places : ℕ) (next : List ℕ) (links : List Links) (now : EntityRows) (number : ℕ) → shown places next links ≡ now → IsFresh now number
    → (i a : ℕ) → StandsAt next links i a number → ⊥
fresh_nowhere places next links now number view fresh i a s =
    let queue = queue_is places next links now i s.link view s.is_link in
    fresh i (subst (λ (q : List ℕ). Contains q number) (sym queue)
    (a, slice_get_within (queue_of next s.link) a number s.at, get_or_from_slice_get (queue_of next s.link) a number number s.at))

-- nothing queued
pub rows_idle : (next : List ℕ) (l : Links) (n : ℕ) → map (row_of next) (replicate n l) ≡ replicate n (row_of next l)
rows_idle next l zero = refl
rows_idle next l (suc n) = ap (λ rows. row_of next l ∷ rows) (rows_idle next l n)
