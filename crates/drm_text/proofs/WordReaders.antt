-- What readers of words take from a line, and that they take again what is written.
use Rattle.std.proofs.Common.{◌≡◌, ℕ, ◌^◌, ◌-◌, ◌<◌, ◌≤◌, Bool, true, false, cond, List, [], ◌∷◌, length, Option, Some, None, Result, Ok, Err, refl, ap, subst, ◌∙◌, arith, lt-ltb}
use Rattle.std.specs.Prelude.{nat_lt}
use Rattle.std.specs.Fmt.{decimal}
use Rattle.std.proofs.lemmas.Bool.{ltb-true}
use Rattle.std.proofs.lemmas.Fmt.{decimal_nonempty}
use Rattle.drm_text.specs.declared.fault.Fault.{Fault}
use Rattle.drm_text.specs.declared.fault.TextFault.TheVariants as what
use Rattle.drm_text.specs.Cut.{Words}
use Rattle.drm_text.specs.Grammar.{IsName, AreBytes}
use Rattle.drm_text.specs.Hexadecimal.{bytes_of, bytes_at, last_bytes_at, text_of_bytes}
use Rattle.drm_text.specs.Number.{number_up_to}
use Rattle.drm_text.specs.Reading.{◌>>=◌, or_fault}
use Rattle.drm_text.specs.Words.{first_of_words, word_at, nothing_in, end_at, number_at, last_number_at, name_at, last_name_at, fault_here}
use Rattle.drm_text.proofs.BytesWritten.{bytes_takes, bytes_written, bytes_small}
use Rattle.drm_text.proofs.NumberLaws.{number_takes}
use Rattle.drm_text.proofs.NumbersWritten.{number_written}
use Rattle.drm_text.proofs.Digits.{number_small}

abbrev done : {A : Type 0} → A → Result A Fault
done x = Ok x

pub ok_is : {A : Type 0} (x y : A) → done x ≡ done y → x ≡ y
ok_is x y e = cc

-- the value of a step that did not fail
pub bind_ok : {A B : Type 0} (r : Result A Fault) (f : A → Result B Fault) (y : B) → (r >>= f) ≡ Ok y → (x : A) × (r ≡ Ok x) × (f x ≡ Ok y)
bind_ok (Ok x) f y e = (x, refl, e)
bind_ok (Err d) f y e = absurd (cc)

pub or_fault_ok : {A : Type 0} (o : Option A) (fault : Fault) (x : A) → or_fault o fault ≡ Ok x → o ≡ Some x
or_fault_ok (Some a) fault x e = ap (λ (b : _). Some b) (ok_is a x e)
or_fault_ok None fault x e = absurd (cc)

-- a test that has to pass
pub test_ok : {A : Type 0} (b : Bool) (x y : A) (fault : Fault) → cond b (done x) (Err fault) ≡ Ok y → (b ≡ true) × (x ≡ y)
test_ok true x y fault e = (refl, ok_is x y e)
test_ok false x y fault e = absurd (cc)

-- a reader of one word takes what is spelled so, and it alone
pub record ReadsWord {X : Type 0} (read : Words → Result (X × Words) Fault) (spell : X → List ℕ) (Fits : X → Type 0) : Type 0 where
  pub takes : (words : Words) (x : X × Words) → read words ≡ Ok x → (words.rest.parts ≡ spell x.0 ∷ x.1.rest.parts) × Fits x.0
  pub again : (words : Words) (x : X) (more : List (List ℕ)) → words.rest.parts ≡ spell x ∷ more → Fits x
      → (after : Words) × (read words ≡ Ok (x, after)) × (after.rest.parts ≡ more)

-- the same of a reader of all words that are left
pub record ReadsLine {X : Type 0} (read : Words → Result X Fault) (spell : X → List (List ℕ)) (Fits : X → Type 0) : Type 0 where
  pub takes : (words : Words) (x : X) → read words ≡ Ok x → (words.rest.parts ≡ spell x) × Fits x
  pub again : (words : Words) (x : X) → words.rest.parts ≡ spell x → Fits x → read words ≡ Ok x

first_takes : (words : Words) (parts : List (List ℕ)) (x : List ℕ × Words) → first_of_words words parts ≡ Ok x → (parts ≡ x.0 ∷ x.1.rest.parts) × (0 < length x.0)
first_takes words [] x e = absurd (cc)
first_takes words ([] ∷ rest) x e = absurd (cc)
first_takes words ((byte ∷ bytes) ∷ rest) x e =
    subst (λ (y : List ℕ × Words). (((byte ∷ bytes) ∷ rest) ≡ y.0 ∷ y.1.rest.parts) × (0 < length y.0)) (ok_is _ x e) (refl, omega arith)

first_again : (words : Words) (word : List ℕ) (more : List (List ℕ)) → 0 < length word
    → (after : Words) × (first_of_words words (word ∷ more) ≡ Ok (word, after)) × (after.rest.parts ≡ more)
first_again words [] more some = absurd (omega arith)
first_again words (byte ∷ bytes) more some = (_, refl, refl)

pub any_word : ReadsWord word_at (λ word. word) (λ word. 0 < length word)
unfolding word_at
any_word = record {
  takes = λ words x e. first_takes words words.rest.parts x e;
  again = λ words word more is some. let a = first_again words word more some in (a.0, ap (λ (parts : List (List ℕ)). first_of_words words parts) is ∙ a.1, a.2);
}

nothing_takes : (words : Words) (parts : List (List ℕ)) (x : Unit {0}) → nothing_in words parts ≡ Ok x → parts ≡ []
nothing_takes words [] x e = refl
nothing_takes words (word ∷ rest) x e = absurd (cc)

pub no_word : ReadsLine end_at (λ _. []) (λ _. Unit {0})
unfolding end_at
no_word = record {
  takes = λ words x e. (nothing_takes words words.rest.parts x e, tt);
  again = λ words x is _. ap (λ (parts : List (List ℕ)). nothing_in words parts) is;
}

-- a number of at most `most`
pub numbers_read : (most : ℕ) → most < 2 ^ 64 → ReadsWord (number_at most) decimal (λ n. n ≤ most)
unfolding number_at
numbers_read most small = record {
  takes = λ words x e.
      let a = bind_ok (word_at words) (λ word. or_fault (number_up_to most word.0) (fault_here words what.Number) >>= λ n. Ok (n, word.1)) x e in
      let b = bind_ok (or_fault (number_up_to most a.0.0) (fault_here words what.Number)) (λ n. Ok (n, a.0.1)) x a.2 in
      let some = or_fault_ok (number_up_to most a.0.0) (fault_here words what.Number) b.0 b.1 in
      let fits : b.0 ≤ most = number_small most b.0 a.0.0 some in
      let word : decimal b.0 ≡ a.0.0 = number_takes most b.0 a.0.0 (omega arith) some in
      let is = any_word.takes words a.0 a.1 in
      subst (λ (y : ℕ × Words). (words.rest.parts ≡ decimal y.0 ∷ y.1.rest.parts) × (y.0 ≤ most)) (ok_is (b.0, a.0.1) x b.2) (rw word is.0, fits);
  again = λ words n more is fits.
      let a = any_word.again words (decimal n) more is (decimal_nonempty n (omega arith)) in
      (a.0, rw (a.1, number_written most n (omega arith) fits) refl, a.2);
}

-- a reader of one word, at the end of the line
pub ends_line : {X : Type 0} (read : Words → Result (X × Words) Fault) (spell : X → List ℕ) (Fits : X → Type 0) → ReadsWord read spell Fits
    → ReadsLine (λ words. read words >>= λ x. end_at x.1 >>= λ _. Ok x.0) (λ x. spell x ∷ []) Fits
ends_line {X} read spell Fits reads = record {
  takes = λ words x e.
      let a = bind_ok (read words) (λ y. end_at y.1 >>= λ _. Ok y.0) x e in
      let b = bind_ok (end_at a.0.1) (λ _. Ok a.0.0) x a.2 in
      let is = reads.takes words a.0 a.1 in
      let ended = (no_word.takes a.0.1 b.0 b.1).0 in
      subst (λ (y : X). (words.rest.parts ≡ spell y ∷ []) × Fits y) (ok_is a.0.0 x b.2) (rw ended at is.0, is.1);
  again = λ words x is fits.
      let a = reads.again words x [] is fits in
      rw (a.1, no_word.again a.0 tt a.2 tt) refl;
}

pub last_numbers_read : (most : ℕ) → most < 2 ^ 64 → ReadsLine (last_number_at most) (λ n. decimal n ∷ []) (λ n. n ≤ most)
unfolding last_number_at
last_numbers_read most small =
    let reads = ends_line (number_at most) decimal (λ n. n ≤ most) (numbers_read most small) in
    record { takes = λ words x e. reads.takes words x e; again = λ words x is fits. reads.again words x is fits }

pub names_read : (count : ℕ) → ReadsWord (name_at count) decimal (IsName count)
unfolding name_at
names_read count = record {
  takes = λ words x e.
      let a = bind_ok (number_at (2 ^ 32 - 1) words) (λ n. cond (nat_lt n.0 count) (Ok n) (Err (fault_here words what.NoSuch))) x e in
      let t = test_ok (nat_lt a.0.0 count) a.0 x (fault_here words what.NoSuch) a.2 in
      let is = (numbers_read (2 ^ 32 - 1) (omega arith)).takes words a.0 a.1 in
      subst (λ (y : ℕ × Words). (words.rest.parts ≡ decimal y.0 ∷ y.1.rest.parts) × IsName count y.0) t.1 (is.0, (is.1, ltb-true _ _ t.0));
  again = λ words n more is fits.
      let a = (numbers_read (2 ^ 32 - 1) (omega arith)).again words n more is fits.0 in
      (a.0, rw (a.1, lt-ltb n count fits.1) refl, a.2);
}

pub last_names_read : (count : ℕ) → ReadsLine (last_name_at count) (λ n. decimal n ∷ []) (IsName count)
unfolding last_name_at
last_names_read count =
    let reads = ends_line (name_at count) decimal (IsName count) (names_read count) in
    record { takes = λ words x e. reads.takes words x e; again = λ words x is fits. reads.again words x is fits }

some_bytes : (bytes word : List ℕ) → word ≡ text_of_bytes bytes → 0 < length word → 0 < length bytes
some_bytes [] word is some = absurd (omega (arith, ap length is))
some_bytes (byte ∷ bytes) word is some = omega arith

some_digits : (bytes : List ℕ) → 0 < length bytes → 0 < length (text_of_bytes bytes)
some_digits [] some = absurd (omega arith)
some_digits (byte ∷ bytes) some = omega arith

-- bytes as hexadecimal digits
pub bytes_read : ReadsWord bytes_at text_of_bytes AreBytes
unfolding bytes_at
bytes_read = record {
  takes = λ words x e.
      let a = bind_ok (word_at words) (λ word. or_fault (bytes_of word.0) (fault_here words what.Number) >>= λ bytes. Ok (bytes, word.1)) x e in
      let b = bind_ok (or_fault (bytes_of a.0.0) (fault_here words what.Number)) (λ bytes. Ok (bytes, a.0.1)) x a.2 in
      let some = or_fault_ok (bytes_of a.0.0) (fault_here words what.Number) b.0 b.1 in
      let word : a.0.0 ≡ text_of_bytes b.0 = bytes_takes b.0 a.0.0 some in
      let is = any_word.takes words a.0 a.1 in
      subst (λ (y : List ℕ × Words). (words.rest.parts ≡ text_of_bytes y.0 ∷ y.1.rest.parts) × AreBytes y.0) (ok_is (b.0, a.0.1) x b.2)
      (rw (← word) is.0, (some_bytes b.0 a.0.0 word is.1, bytes_small b.0 a.0.0 some));
  again = λ words bytes more is fits.
      let a = any_word.again words (text_of_bytes bytes) more is (some_digits bytes fits.0) in
      (a.0, rw (a.1, bytes_written bytes fits.1) refl, a.2);
}

pub last_bytes_read : ReadsLine last_bytes_at (λ bytes. text_of_bytes bytes ∷ []) AreBytes
unfolding last_bytes_at
last_bytes_read =
    let reads = ends_line bytes_at text_of_bytes AreBytes bytes_read in
    record { takes = λ words x e. reads.takes words x e; again = λ words x is fits. reads.again words x is fits }
