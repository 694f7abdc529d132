-- The numbers of the command that runs a script in threads.
use Rattle.std.proofs.Common.{◌≡◌, ◌<◌, ◌^◌, ℕ, List, Option, Some, None, Ok, Err, Result, refl, ap, is_some, true, true≢false, sym, ◌∙◌, subst, arith}
use Rattle.std.specs.Str.Parse.{ParsesUnsigned, digits_value, without_leading_plus}
use Rattle.clap.specs.Matches.{ReadsOne, one_text}
use Rattle.clap.specs.declared.parser.matches.Found.{Found}
use Rattle.clap.proofs.WalkLemmas.{one_text-rows}
use Rattle.clap.specs.Words.{Text, rows_of}
use Rattle.clap.specs.Values.{IsUnsignedIn}
use Rattle.drm_command_line.specs.CommandLine.{IsNumber}
use Rattle.drm_command_line.specs.Known.{HasNumber}

-- the number that a text spells
abbrev spelled : Text → ℕ
spelled text = digits_value 10 (without_leading_plus text)

-- a number of 32 bits is read from a text that is accepted, and is what the text spells
accepted_reads : (E : Type 0) (G : List ℕ → Result ℕ E → Type 0) (most : ℕ) (text : Text) (r : Option ℕ) → ReadsOne G text r
    → ((u : List ℕ) (x : Result ℕ E) → G u x → ParsesUnsigned 32 10 u x) → most < 2 ^ 32 → IsUnsignedIn 1 most text
    → (n : ℕ) × (r ≡ Some n) × (spelled text ≡ n)
accepted_reads E G most text (Some v) read parses fits accepted = (v, refl, sym (parses text (Ok v) read).1)
accepted_reads E G most text None read parses fits accepted =
    absurd (parses text (Err read.0) read.1 (accepted.0, omega (arith, accepted.3, fits)))

-- a number of 32 bits that is read of an option that is accepted is the option's number
pub number_read : (E : Type 0) (G : List ℕ → Result ℕ E → Type 0) (name : Text) (most : ℕ) (own : Found) (r : Option ℕ)
    → ((t : Text) → one_text own name ≡ Some t → ReadsOne G t r) → ((u : List ℕ) (x : Result ℕ E) → G u x → ParsesUnsigned 32 10 u x) → most < 2 ^ 32
    → HasNumber name most (rows_of own) → (n : ℕ) × (r ≡ Some n) × IsNumber name most (rows_of own) n
number_read E G name most own r gives parses fits option =
    let read = accepted_reads E G most option.0 r (gives option.0 (one_text-rows own name ∙ option.1)) parses fits option.2 in
    (read.0, read.1, subst (IsNumber name most (rows_of own)) read.2 ((option.0, option.1, refl), (option.2.2, option.2.3)))

-- what is none is not there
pub none_is_not : {X : Type 0} (o : Option X) → o ≡ None → is_some o ≡ true → ⊥
none_is_not None is some = absurd (true≢false (sym some))
none_is_not (Some x) is some = absurd (true≢false (ap is_some is))
