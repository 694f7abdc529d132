-- One line more, in the lanes of a log.
use Rattle.std.proofs.Common.{◌≡◌, ℕ, suc, ◌+◌, ◌-◌, ◌^◌, ◌<◌, ◌≤◌, Bool, true, false, cond, List, [], ◌∷◌, ◌++◌, length, Option, Some, None, min, refl, sym, ap, ◌∙◌, arith}
use Rattle.std.specs.Prelude.{slice_index_or}
use Rattle.std.specs.Option.{option_or}
use Rattle.std.proofs.lemmas.List.Folds.{find-append}
use Rattle.std.proofs.lemmas.List.Sums.{count_by-le-length, sum_by_push}
use Rattle.drm_trace.specs.declared.event.Event.{Event}
use Rattle.drm_rules.specs.Lines.{count_in, first_in, last_in}
use Rattle.drm_rules.specs.Rows.{CountsOne, NotesFirst, NotesLast, is_in, item_in}

or_nothing : {X : Type 0} (o : Option X) → option_or o None ≡ o
or_nothing None = refl
or_nothing (Some x) = refl

or_assoc : {X : Type 0} (a b c : Option X) → option_or (option_or a b) c ≡ option_or a (option_or b c)
or_assoc None b c = refl
or_assoc (Some x) b c = refl

-- the first of a lane, with one line more
pub first_more : (lane : Event → Option ℕ) (seen : List Event) (e : Event) (k : ℕ)
    → first_in lane (seen ++ e ∷ []) k ≡ option_or (first_in lane seen k) (item_in (lane e) e k)
first_more lane seen e k = find-append (λ (x : Event). is_in (lane x) k) seen (e ∷ [])

-- the last of a lane, with one line more
pub last_more : (lane : Event → Option ℕ) (seen : List Event) (e : Event) (k : ℕ)
    → last_in lane (seen ++ e ∷ []) k ≡ option_or (item_in (lane e) e k) (last_in lane seen k)
last_more lane [] e k = sym (or_nothing (item_in (lane e) e k))
last_more lane (first ∷ seen) e k =
    ap (λ (o : Option Event). option_or o (item_in (lane first) first k)) (last_more lane seen e k)
    ∙ or_assoc (item_in (lane e) e k) (last_in lane seen k) (item_in (lane first) first k)

-- how many a lane has, with one line more
pub count_more : (lane : Event → Option ℕ) (seen : List Event) (e : Event) (k : ℕ)
    → count_in lane (seen ++ e ∷ []) k ≡ count_in lane seen k + cond (is_in (lane e) k) 1 0
count_more lane seen e k = sum_by_push (λ (x : Event). cond (is_in (lane x) k) 1 0) seen e

-- ---- rows that follow them

pub first_follows : (lane : Event → Option ℕ) (seen : List Event) (e : Event) (old new : List (Option Event)) → NotesFirst old (lane e) e new
    → ((k : ℕ) → slice_index_or old k None ≡ first_in lane seen k) → (k : ℕ) → slice_index_or new k None ≡ first_in lane (seen ++ e ∷ []) k
first_follows lane seen e old new notes are k =
    notes k ∙ ap (λ (o : Option Event). option_or o (item_in (lane e) e k)) (are k) ∙ sym (first_more lane seen e k)

pub last_follows : (lane : Event → Option ℕ) (seen : List Event) (e : Event) (old new : List (Option Event)) → NotesLast old (lane e) e new
    → ((k : ℕ) → slice_index_or old k None ≡ last_in lane seen k) → (k : ℕ) → slice_index_or new k None ≡ last_in lane (seen ++ e ∷ []) k
last_follows lane seen e old new notes are k =
    notes k ∙ ap (λ (o : Option Event). option_or (item_in (lane e) e k) o) (are k) ∙ sym (last_more lane seen e k)

count_up : (old new before after : ℕ) (test : Bool) → new ≡ cond test (min (old + 1) (2 ^ 64 - 1)) old → old ≡ before → before + 1 < 2 ^ 64
    → after ≡ before + cond test 1 0 → new ≡ after
count_up old new before after true up is small so = omega (arith, up, is, small, so)
count_up old new before after false up is small so = omega (arith, up, is, small, so)

pub count_follows : (lane : Event → Option ℕ) (seen : List Event) (e : Event) (old new : List ℕ) → length seen + 1 < 2 ^ 64 → CountsOne old (lane e) new
    → ((k : ℕ) → slice_index_or old k 0 ≡ count_in lane seen k) → (k : ℕ) → slice_index_or new k 0 ≡ count_in lane (seen ++ e ∷ []) k
count_follows lane seen e old new few counts are k =
    let most = count_by-le-length (λ (x : Event). is_in (lane x) k) seen in
    count_up (slice_index_or old k 0) (slice_index_or new k 0) (count_in lane seen k) (count_in lane (seen ++ e ∷ []) k) (is_in (lane e) k) (counts k) (are k)
    (omega (arith, most, few)) (count_more lane seen e k)
