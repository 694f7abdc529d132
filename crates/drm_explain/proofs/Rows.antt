-- Rows by their numbers, and the rows of the four parts of the table.
use Rattle.std.proofs.Common.{◌≡◌, ◌==◌, ◌++◌, ◌∙◌, ◌∷◌, ℕ, Bool, List, None, Option, Some, [], ap, append_assoc, cond, false, find, flat_map, map, refl, sym, true}
use Rattle.std.proofs.lemmas.Grind.{flat_map-append}
use Rattle.std.proofs.lemmas.List.Folds.{find-append}
use Rattle.std.specs.Fmt.{decimal}
use Rattle.std.specs.List.{list_any}
use Rattle.std.specs.Option.{option_or}
use Rattle.std.specs.Prelude.{◌||◌, is_some, option_map}
use Rattle.std.specs.Str.{bytes_eq}
use Rattle.drm_explain.specs.Numbers.{is_in, numbers}
use Rattle.drm_explain.specs.Rows.{Held, Row, context_rows, device_rows, job_rows, row_of, row_spelled, rows, text_rows, told}
use Rattle.drm_explain.specs.Texts.{line_of}

-- a row is found exactly for the numbers of some rows
found_in : (all : List Row) (number : ℕ) → is_some (find (λ row. row.number == number) all) ≡ list_any (λ n. n == number) (map (λ row. row.number) all)
found_in [] number = refl
found_in (row ∷ all) number =
    elim (row.number == number) as (λ b. is_some (cond b (Some row) (find (λ row. row.number == number) all)) ≡ (b || list_any (λ n. n == number) (map (λ row. row.number) all))) [
      | true ↦ refl
      | false ↦ found_in all number
    ]

-- those of the table have these numbers
pub numbers_of_rows : map (λ row. row.number) rows ≡ numbers
unfolding rows job_rows device_rows context_rows text_rows
numbers_of_rows = refl

row_known : (number : ℕ) → is_some (row_of number) ≡ is_in numbers number
unfolding row_of
row_known number = found_in rows number ∙ ap (λ listed. is_in listed number) numbers_of_rows

-- what is found in one of two lists
joined : (p : Row → Bool) (xs ys : List Row) (r s : Option Held) → option_map told r ≡ find p xs → option_map told s ≡ find p ys → option_map told (option_or r s) ≡ find p (xs ++ ys)
joined p xs ys (Some x) s one other = ap (λ (o : Option Row). option_or o (find p ys)) one ∙ sym (find-append p xs ys)
joined p xs ys None s one other = other ∙ ap (λ (o : Option Row). option_or o (find p ys)) one ∙ sym (find-append p xs ys)

-- and in one of the four parts of the table
four : (p : Row → Bool) (r s t u : Option Held) → option_map told r ≡ find p job_rows → option_map told s ≡ find p device_rows → option_map told t ≡ find p context_rows
    → option_map told u ≡ find p text_rows → option_map told (option_or (option_or r s) (option_or t u)) ≡ find p rows
unfolding rows
four p r s t u jobs devices contexts texts =
    joined p (job_rows ++ device_rows) (context_rows ++ text_rows) (option_or r s) (option_or t u) (joined p job_rows device_rows r s jobs devices) (joined p context_rows text_rows t u contexts texts)

pub row_found : (number : ℕ) (r s t u : Option Held) → option_map told r ≡ find (λ row. row.number == number) job_rows → option_map told s ≡ find (λ row. row.number == number) device_rows
    → option_map told t ≡ find (λ row. row.number == number) context_rows → option_map told u ≡ find (λ row. row.number == number) text_rows
    → option_map told (option_or (option_or r s) (option_or t u)) ≡ row_of number
unfolding row_of
row_found number r s t u jobs devices contexts texts = four (λ row. row.number == number) r s t u jobs devices contexts texts

pub word_found : (word : List ℕ) (r s t u : Option Held) → option_map told r ≡ find (λ row. bytes_eq (decimal row.number) word) job_rows
    → option_map told s ≡ find (λ row. bytes_eq (decimal row.number) word) device_rows → option_map told t ≡ find (λ row. bytes_eq (decimal row.number) word) context_rows
    → option_map told u ≡ find (λ row. bytes_eq (decimal row.number) word) text_rows → option_map told (option_or (option_or r s) (option_or t u)) ≡ row_spelled word
unfolding row_spelled
word_found word r s t u jobs devices contexts texts = four (λ row. bytes_eq (decimal row.number) word) r s t u jobs devices contexts texts

-- a row that was found tells that its number is known
pub known_by : (number : ℕ) (found : Option Held) → option_map told found ≡ row_of number → is_some found ≡ is_in numbers number
known_by number (Some x) is = ap is_some is ∙ row_known number
known_by number None is = ap is_some is ∙ row_known number

-- the lines of the four parts, one behind the other
pub listed : (t0 t1 t2 t3 t4 : List ℕ) (as1 bs cs ds : List Row) → t0 ≡ [] → t1 ≡ t0 ++ flat_map line_of as1 → t2 ≡ t1 ++ flat_map line_of bs → t3 ≡ t2 ++ flat_map line_of cs
    → t4 ≡ t3 ++ flat_map line_of ds → as1 ≡ job_rows → bs ≡ device_rows → cs ≡ context_rows → ds ≡ text_rows → t4 ≡ flat_map line_of rows
unfolding rows
listed t0 t1 t2 t3 t4 as1 bs cs ds e0 e1 e2 e3 e4 a b c d =
    let first : t1 ≡ flat_map line_of job_rows = e1 ∙ ap (λ (t : List ℕ). t ++ flat_map line_of as1) e0 ∙ ap (flat_map line_of) a in
    let two : t2 ≡ flat_map line_of (job_rows ++ device_rows) =
    e2 ∙ ap (λ (t : List ℕ). t ++ flat_map line_of bs) first ∙ ap (λ (l : List Row). flat_map line_of job_rows ++ flat_map line_of l) b ∙ sym (flat_map-append line_of job_rows device_rows) in
    let three : t3 ≡ flat_map line_of (job_rows ++ device_rows) ++ flat_map line_of context_rows =
    e3 ∙ ap (λ (t : List ℕ). t ++ flat_map line_of cs) two ∙ ap (λ (l : List Row). flat_map line_of (job_rows ++ device_rows) ++ flat_map line_of l) c in
    e4
    ∙ ap (λ (t : List ℕ). t ++ flat_map line_of ds) three
    ∙ ap (λ (l : List Row). (flat_map line_of (job_rows ++ device_rows) ++ flat_map line_of context_rows) ++ flat_map line_of l) d
    ∙ append_assoc (flat_map line_of (job_rows ++ device_rows)) (flat_map line_of context_rows) (flat_map line_of text_rows)
    ∙ ap (λ (t : List ℕ). flat_map line_of (job_rows ++ device_rows) ++ t) (sym (flat_map-append line_of context_rows text_rows))
    ∙ sym (flat_map-append line_of (job_rows ++ device_rows) (context_rows ++ text_rows))
