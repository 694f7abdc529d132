-- The rings of an entity are read as they are written, and as nothing else.
use Rattle.std.proofs.Common.{◌≡◌, ℕ, ◌+◌, ◌-◌, ◌^◌, ◌<◌, ◌≤◌, ◌==◌, Bool, true, not, List, [], ◌∷◌, ◌++◌, append_assoc, length, map, Some, Ok, refl, sym, ap, subst, ◌∙◌, arith}
use Rattle.std.specs.List.{AllByRecursion, join_with_byte, list_all}
use Rattle.std.specs.Fmt.{decimal}
use Rattle.std.proofs.lemmas.Bool.Decides.{nat_tests}
use Rattle.std.proofs.lemmas.Fmt.{decimal_nonempty}
use Rattle.std.proofs.lemmas.List.{append-nil}
use Rattle.std.proofs.lemmas.List.Splits.{join_with_byte-slice_split}
use Rattle.drm_text.specs.Cut.{parts_of, Words}
use Rattle.drm_text.specs.declared.fault.TextFault.TheVariants as what
use Rattle.drm_text.specs.Number.{number_up_to}
use Rattle.drm_text.specs.Reading.{◌>>=◌, or_fault}
use Rattle.drm_text.specs.Words.{word_at, fault_here}
use Rattle.drm_text.proofs.PartsJoined.{joined_cut}
use Rattle.drm_text.proofs.Spelled.{is_graphic, decimal_graphic, passes-decimal, passes-joined, all_free}
use Rattle.drm_text.proofs.WordReaders.{bind_ok, ok_is, or_fault_ok, ReadsWord, any_word}
use Rattle.drm_parse.specs.Grammar.{IsNumber, rings_word}
use Rattle.drm_parse.specs.Header.{with_rings, rings_of, rings_at}
use Rattle.drm_parse.proofs.PacketReaders.{some_is, bind_some, number_word, number_again}

-- one number or more
abbrev AreNumbers : List ℕ → Type 0
AreNumbers rings = (0 < length rings) × AllByRecursion IsNumber rings

-- ---- what is read

record Read (start : List ℕ) (pieces : List (List ℕ)) (rings : List ℕ) : Type 0 where
  more : List ℕ
  adds : rings ≡ start ++ more
  spelled : pieces ≡ map decimal more
  fit : AllByRecursion IsNumber more

same_cons : (x y : List ℕ) (xs ys : List (List ℕ)) → x ≡ y → xs ≡ ys → (x ∷ xs) ≡ y ∷ ys
same_cons x y xs ys e f = cc

pieces_take : (start : List ℕ) (pieces : List (List ℕ)) (rings : List ℕ) → with_rings start pieces ≡ Some rings → Read start pieces rings
unfolding with_rings
pieces_take start [] rings e = record { more = []; adds = sym (some_is start rings e) ∙ sym (append-nil start); spelled = refl; fit = tt }
pieces_take start (piece ∷ rest) rings e =
    let a = bind_some (number_up_to (2 ^ 32 - 1) piece) (λ ring. with_rings (start ++ ring ∷ []) rest) rings e in
    let number = number_word a.0 piece a.1 in
    let read = pieces_take (start ++ a.0 ∷ []) rest rings a.2 in record {
      more = a.0 ∷ read.more;
      adds = read.adds ∙ append_assoc start (a.0 ∷ []) read.more;
      spelled = same_cons _ _ _ _ number.0 read.spelled;
      fit = (number.1, read.fit);
    }

some_rings : (rings word : List ℕ) → word ≡ rings_word rings → 0 < length word → 0 < length rings
some_rings [] word is some = absurd (omega (arith, ap length is))
some_rings (ring ∷ rings) word is some = omega arith

word_takes : (word rings : List ℕ) → rings_of word ≡ Some rings → 0 < length word → (word ≡ rings_word rings) × AreNumbers rings
word_takes word rings e some =
    let read = pieces_take [] (parts_of 44 word) rings e in
    let is : word ≡ rings_word rings = sym (join_with_byte-slice_split 44 word) ∙ ap (join_with_byte 44) read.spelled ∙ ap rings_word (sym read.adds) in
    (is, (some_rings rings word is some, subst (AllByRecursion IsNumber) (sym read.adds) read.fit))

-- ---- what is written

pieces_again : (start rings : List ℕ) → AllByRecursion IsNumber rings → with_rings start (map decimal rings) ≡ Some (start ++ rings)
unfolding with_rings
pieces_again start [] fit = ap (λ (r : List ℕ). Some r) (sym (append-nil start))
pieces_again start (ring ∷ rings) fit =
    rw (number_again ring fit.0) (pieces_again (start ++ ring ∷ []) rings fit.1 ∙ ap (λ (r : List ℕ). Some r) (append_assoc start (ring ∷ []) rings))

abbrev is_no_comma : ℕ → Bool
is_no_comma byte = not (byte == 44)

digit_no_comma : (digit : ℕ) → digit < 10 → is_no_comma (48 + digit) ≡ true
digit_no_comma digit small = grind (arith, nat_tests)

numbers_no_comma : (rings : List ℕ) → AllByRecursion IsNumber rings → AllByRecursion (λ word. list_all is_no_comma word ≡ true) (map decimal rings)
numbers_no_comma [] fit = tt
numbers_no_comma (ring ∷ rings) fit =
    (passes-decimal is_no_comma digit_no_comma ring (let s : ring ≤ 2 ^ 32 - 1 = fit.0 in omega arith), numbers_no_comma rings fit.1)

word_again : (rings : List ℕ) → AreNumbers rings → rings_of (rings_word rings) ≡ Some rings
word_again [] fits = absurd (let none : 0 < 0 = fits.0 in omega arith)
word_again (ring ∷ rings) fits =
    ap (with_rings []) (joined_cut 44 (decimal ring) (map decimal rings) (all_free is_no_comma 44 refl (map decimal (ring ∷ rings)) (numbers_no_comma (ring ∷ rings) fits.1)))
    ∙ pieces_again [] (ring ∷ rings) fits.1

joined_some : (word : List ℕ) (words : List (List ℕ)) → 0 < length word → 0 < length (join_with_byte 44 (word ∷ words))
joined_some [] words some = absurd (omega arith)
joined_some (byte ∷ word) [] some = omega arith
joined_some (byte ∷ word) (next ∷ rest) some = omega arith

numbers_graphic : (rings : List ℕ) → AllByRecursion IsNumber rings → AllByRecursion (λ word. list_all is_graphic word ≡ true) (map decimal rings)
numbers_graphic [] fit = tt
numbers_graphic (ring ∷ rings) fit = (decimal_graphic ring (let s : ring ≤ 2 ^ 32 - 1 = fit.0 in omega arith), numbers_graphic rings fit.1)

-- what is written for rings is a word
pub rings_are_word : (rings : List ℕ) → AreNumbers rings → (0 < length (rings_word rings)) × (list_all is_graphic (rings_word rings) ≡ true)
rings_are_word [] fits = absurd (let none : 0 < 0 = fits.0 in omega arith)
rings_are_word (ring ∷ rings) fits = (
  joined_some (decimal ring) (map decimal rings) (decimal_nonempty ring (let s : ring ≤ 2 ^ 32 - 1 = fits.1.0 in omega arith)),
  passes-joined is_graphic 44 refl (map decimal (ring ∷ rings)) (numbers_graphic (ring ∷ rings) fits.1),
)

-- the rings of an entity
pub ring_lists_read : ReadsWord rings_at rings_word AreNumbers
unfolding rings_at
ring_lists_read = record {
  takes = λ words x e.
      let a = bind_ok (word_at words) (λ word. or_fault (rings_of word.0) (fault_here words what.Number) >>= λ rings. Ok (rings, word.1)) x e in
      let b = bind_ok (or_fault (rings_of a.0.0) (fault_here words what.Number)) (λ rings. Ok (rings, a.0.1)) x a.2 in
      let some = or_fault_ok (rings_of a.0.0) (fault_here words what.Number) b.0 b.1 in
      let is = any_word.takes words a.0 a.1 in
      let t = word_takes a.0.0 b.0 some is.1 in
      subst (λ (y : List ℕ × Words). (words.rest.parts ≡ rings_word y.0 ∷ y.1.rest.parts) × AreNumbers y.0) (ok_is (b.0, a.0.1) x b.2) (rw (← t.0) is.0, t.1);
  again = λ words rings more is fits.
      let a = any_word.again words (rings_word rings) more is (rings_are_word rings fits).0 in
      (a.0, rw (a.1, word_again rings fits) refl, a.2);
}
