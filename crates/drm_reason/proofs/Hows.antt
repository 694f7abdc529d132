-- How a later job is held up, as it is told.
use Rattle.std.proofs.Common.{◌≡◌, ℕ, suc, ◌+◌, ◌<◌, ◌≤◌, drop, get_or, length, Bool, true, false, cond, ◌&&◌, ◌||◌, ◌==◌, List, [], ◌∷◌, map, Some, None, Option, refl, sym, ap, subst, ◌∙◌, arith, Contains}
use Rattle.std.specs.Prelude.{find, option_map, unwrap_or}
use Rattle.std.specs.List.{list_any}
use Rattle.std.proofs.lemmas.Bool.{and_parts, both_ways, eqb-true, or_from, or_parts}
use Rattle.std.proofs.Math.ListN.{drop_of_length-le}
use Rattle.std.proofs.Math.Seq.{drop-cons}
use Rattle.drm_types.specs.Firsts.{first_of}
use Rattle.drm_types.specs.declared.access.Access.{Access}
use Rattle.drm_types.proofs.Firsts.{find_found}
use Rattle.drm_job.specs.Conflicts.{must_wait}
use Rattle.drm_reason.specs.declared.reason.How.{How}
use Rattle.drm_reason.specs.declared.reason.How.TheVariants as how
use Rattle.drm_reason.specs.Reasons.{clash_at, told_of}
use Rattle.drm_reason.specs.Laws.{EachHowIsTold}

-- whether the later job waits at a declaration of the earlier
abbrev waits_at : ℕ × Access → List (ℕ × Access) → Bool
waits_at d declared = list_any (λ e. (d.0 == e.0) && must_wait d.1 e.1) declared

-- ---- one declaration of the earlier job

clash_stands : (d : ℕ × Access) (declared : List (ℕ × Access)) (place : ℕ) (a b : Access) → clash_at d declared ≡ Some (how.Buffer place a b)
    → ◌≡◌ {A = ℕ × Access} d (place, a) × Contains declared (place, b) × (must_wait a b ≡ true)
clash_stands d declared place a b is = by_found (find test declared) refl is
  where
    test : ℕ × Access → Bool
    test = λ e. (d.0 == e.0) && must_wait d.1 e.1

    by_found : (o : Option (ℕ × Access)) → find test declared ≡ o → option_map (λ (e : ℕ × Access). how.Buffer d.0 d.1 e.1) o ≡ Some (how.Buffer place a b)
        → ◌≡◌ {A = ℕ × Access} d (place, a) × Contains declared (place, b) × (must_wait a b ≡ true)
    by_found None found none = absurd (let never : None ≡ Some (how.Buffer place a b) = none in cc (never))
    by_found (Some e) found some =
        let here = find_found test declared e found in
        let parts = and_parts (d.0 == e.0) (must_wait d.1 e.1) here.1 in
        let equal : d.0 ≡ e.0 = eqb-true d.0 e.0 parts.0 in
        let at : d.0 ≡ place = cc (some) in
        let early : d.1 ≡ a = cc (some) in
        let late : e.1 ≡ b = cc (some) in
        let declares : ◌≡◌ {A = ℕ × Access} (d.0, d.1) (place, a) = ap (λ (p : ℕ). (p, d.1)) at ∙ ap (λ (x : Access). (place, x)) early in
        let same : ◌≡◌ {A = ℕ × Access} (e.0, e.1) (place, b) = ap (λ (p : ℕ). (p, e.1)) (sym equal ∙ at) ∙ ap (λ (x : Access). (place, x)) late in (
          declares,
          subst (Contains declared) same here.0,
          subst (λ (x : Access). must_wait x b ≡ true) early (subst (λ (x : Access). must_wait d.1 x ≡ true) late parts.1),
        )

clash_is_no_name : (d : ℕ × Access) (declared : List (ℕ × Access)) → clash_at d declared ≡ Some how.Named → ⊥
clash_is_no_name d [] is = let never : None ≡ Some how.Named = is in cc (never)
clash_is_no_name d (e ∷ rest) is =
    elim ((d.0 == e.0) && must_wait d.1 e.1) as (λ b. option_map (λ (x : ℕ × Access). how.Buffer d.0 d.1 x.1)
    (cond b (Some e) (find (λ (x : ℕ × Access). (d.0 == x.0) && must_wait d.1 x.1) rest)) ≡ Some how.Named → ⊥) [
      | true ↦ λ found. let never : Some (how.Buffer d.0 d.1 e.1) ≡ Some how.Named = found in cc (never)
      | false ↦ λ more. clash_is_no_name d rest more
    ] is

no_clash : (d : ℕ × Access) (declared : List (ℕ × Access)) → clash_at d declared ≡ None → waits_at d declared ≡ false
no_clash d [] is = refl
no_clash d (e ∷ rest) is =
    elim ((d.0 == e.0) && must_wait d.1 e.1) as (λ b. option_map (λ (x : ℕ × Access). how.Buffer d.0 d.1 x.1)
    (cond b (Some e) (find (λ (x : ℕ × Access). (d.0 == x.0) && must_wait d.1 x.1) rest)) ≡ None → (b || waits_at d rest) ≡ false) [
      | true ↦ λ found. absurd (let never : Some (how.Buffer d.0 d.1 e.1) ≡ None = found in cc (never))
      | false ↦ λ more. no_clash d rest more
    ] is

clash_waits : (d : ℕ × Access) (declared : List (ℕ × Access)) (h : How) → clash_at d declared ≡ Some h → waits_at d declared ≡ true
clash_waits d [] h is = absurd (let never : None ≡ Some h = is in cc (never))
clash_waits d (e ∷ rest) h is =
    elim ((d.0 == e.0) && must_wait d.1 e.1) as (λ b. option_map (λ (x : ℕ × Access). how.Buffer d.0 d.1 x.1)
    (cond b (Some e) (find (λ (x : ℕ × Access). (d.0 == x.0) && must_wait d.1 x.1) rest)) ≡ Some h → (b || waits_at d rest) ≡ true) [
      | true ↦ λ found. refl
      | false ↦ λ more. clash_waits d rest h more
    ] is

-- ---- all declarations of the earlier job

-- the earlier job declares the buffer so and the later so, which waits for it
abbrev Clashes : List (ℕ × Access) → List (ℕ × Access) → ℕ → Access → Access → Type 0
Clashes earlier declared place a b = Contains earlier (place, a) × Contains declared (place, b) × (must_wait a b ≡ true)

first_clash : (earlier declared : List (ℕ × Access)) (place : ℕ) (a b : Access) → told_of earlier declared ≡ how.Buffer place a b
    → Clashes earlier declared place a b
first_clash [] declared place a b is = absurd (let never : how.Named ≡ how.Buffer place a b = is in cc (never))
first_clash (d ∷ earlier) declared place a b is = by_clash (first_clash earlier declared place a b) (clash_at d declared) refl is
  where
    by_clash : (told_of earlier declared ≡ how.Buffer place a b → Clashes earlier declared place a b) → (o : Option How) → clash_at d declared ≡ o
        → unwrap_or (first_of (o ∷ map (λ d. clash_at d declared) earlier)) how.Named ≡ how.Buffer place a b → Clashes (d ∷ earlier) declared place a b
    by_clash further None none is =
        let (inside, other, waits) = further is in ((suc inside.0, omega (arith, inside.1), inside.2), other, waits)
    by_clash further (Some told) some is =
        let here : told ≡ how.Buffer place a b = is in
        let (same, other, waits) = clash_stands d declared place a b (some ∙ ap (λ (h : How). Some h) here) in
        ((0, omega arith, same), other, waits)

named_where : (earlier declared : List (ℕ × Access)) → told_of earlier declared ≡ how.Named → list_any (λ d. waits_at d declared) earlier ≡ false
named_where [] declared is = refl
named_where (d ∷ earlier) declared is = by_clash (named_where earlier declared) (clash_at d declared) refl is
  where
    by_clash : (told_of earlier declared ≡ how.Named → list_any (λ d. waits_at d declared) earlier ≡ false) → (o : Option How) → clash_at d declared ≡ o
        → unwrap_or (first_of (o ∷ map (λ d. clash_at d declared) earlier)) how.Named ≡ how.Named
        → (waits_at d declared || list_any (λ d. waits_at d declared) earlier) ≡ false
    by_clash further None none is =
        or_from (waits_at d declared) (list_any (λ d. waits_at d declared) earlier) (no_clash d declared none) (further is)
    by_clash further (Some told) some is =
        let here : told ≡ how.Named = is in absurd (clash_is_no_name d declared (some ∙ ap (λ (h : How). Some h) here))

free_is_named : (earlier declared : List (ℕ × Access)) → list_any (λ d. waits_at d declared) earlier ≡ false → told_of earlier declared ≡ how.Named
free_is_named [] declared is = refl
free_is_named (d ∷ earlier) declared is = by_clash (free_is_named earlier declared parts.1) (clash_at d declared) refl
  where
    parts : (waits_at d declared ≡ false) × (list_any (λ d. waits_at d declared) earlier ≡ false)
    parts = or_parts (waits_at d declared) (list_any (λ d. waits_at d declared) earlier) is

    by_clash : told_of earlier declared ≡ how.Named → (o : Option How) → clash_at d declared ≡ o
        → unwrap_or (first_of (o ∷ map (λ d. clash_at d declared) earlier)) how.Named ≡ how.Named
    by_clash further None none = further
    by_clash further (Some told) some = absurd (both_ways (waits_at d declared) parts.0 (clash_waits d declared told some))

pub each_how_is_told : EachHowIsTold
each_how_is_told earlier later = record {
  buffer = first_clash earlier.declared later.declared;
  named = (named_where earlier.declared later.declared, free_is_named earlier.declared later.declared);
}

-- ---- one declaration after another

-- what is left begins with the declaration at its place
left_begins : {X : Type 0} (xs : List X) (k : ℕ) (d : X) → k < length xs → drop k xs ≡ get_or xs k d ∷ drop (k + 1) xs
left_begins xs k d within =
    let one : suc k ≡ k + 1 = omega arith in drop-cons xs k d within ∙ ap (λ (n : ℕ). get_or xs k d ∷ drop n xs) one

pub told_more : (earlier later : List (ℕ × Access)) (k : ℕ) (d : ℕ × Access) → k < length earlier → clash_at (get_or earlier k d) later ≡ None
    → told_of (drop k earlier) later ≡ told_of earlier later → told_of (drop (k + 1) earlier) later ≡ told_of earlier later
told_more earlier later k d within none so =
    sym (ap (λ o. unwrap_or (first_of (o ∷ map (λ d. clash_at d later) (drop (k + 1) earlier))) how.Named) none)
    ∙ (ap (λ (ds : List (ℕ × Access)). told_of ds later) (sym (left_begins earlier k d within)) ∙ so)

pub told_found : (earlier later : List (ℕ × Access)) (k : ℕ) (d : ℕ × Access) (h : How) → k < length earlier → clash_at (get_or earlier k d) later ≡ Some h
    → told_of (drop k earlier) later ≡ told_of earlier later → h ≡ told_of earlier later
told_found earlier later k d h within some so =
    sym (ap (λ o. unwrap_or (first_of (o ∷ map (λ d. clash_at d later) (drop (k + 1) earlier))) how.Named) some)
    ∙ (ap (λ (ds : List (ℕ × Access)). told_of ds later) (sym (left_begins earlier k d within)) ∙ so)

pub told_end : (earlier later : List (ℕ × Access)) (k : ℕ) → length earlier ≤ k → told_of (drop k earlier) later ≡ told_of earlier later
    → how.Named ≡ told_of earlier later
told_end earlier later k all so = sym (ap (λ (ds : List (ℕ × Access)). told_of ds later) (drop_of_length-le earlier all)) ∙ so
