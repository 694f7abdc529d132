-- Words that clap refuses nowhere ask for something.
use Rattle.std.proofs.Common.{◌≡◌, Bool, true, false, List, [], Option, Some, None, inl, inr, refl, codes, option_map, ℕ, ◌∙◌, subst, sym}
use Rattle.std.proofs.lemmas.Option.{same_Some}
use Rattle.std.proofs.Common.{true≢false}
use Rattle.std.specs.Str.{bytes_eq}
use Rattle.std.proofs.lemmas.Slice.Eq.{bytes_eq-Decides}
use Rattle.std.specs.Borrow.{Bor}
use Rattle.std.specs.Str.Parse.{digits_value, without_leading_plus}
use Rattle.clap.specs.Words.{Row, Text, fault_of, first_of, subcommand_of}
use Rattle.drm_engine.specs.declared.engine.Engine.TheVariants as engine
use Rattle.drm_command_line.specs.CommandLine.{Asks, Gives, IsAnythingAsked, IsNumber, is_set, program_app}
use Rattle.drm_command_line.specs.Known.{HasNumber, HasNumbers, IsKnown, IsOneOf, commands}
use Rattle.drm_command_line.specs.declared.request.Request.{Request}
use Rattle.drm_command_line.specs.declared.request.Request.TheVariants.{Conform, Draw, Explain, Explore, ReplayAsJournal, ReplayWithWords, Run, Test, Trace, Why, Work}
use Rattle.drm_command_line.proofs.Entered.{command_found}
use Rattle.drm_command_line.proofs.Options.{numbers_are_there}

-- what stands behind an option can be lent
lent : (found : Option Text) → (word : Option (Bor Text)) × (found ≡ option_map (λ w. w.now) word)
lent None = (None, refl)
lent (Some text) = (Some (record { ref_ptr = (0, 0); now = text }), refl)

given : (name : Text) (rows : List Row) → (word : Option (Bor Text)) × Gives name rows word
given name rows = lent (first_of name rows)

-- a text that is accepted is the option's number
number_is : (name : Text) (most : ℕ) (rows : List Row) → HasNumber name most rows → (n : ℕ) × IsNumber name most rows n
number_is name most rows has = (digits_value 10 (without_leading_plus has.0), ((has.0, has.1, refl), (has.2.2, has.2.3)))

-- the command that answers a script asks for words, for the journal, or for the engine
replay_asks : (name : Text) (rows : List Row) (words journal : Bool) → name ≡ codes "replay" → is_set (codes "words") rows ≡ words → is_set (codes "journal") rows ≡ journal
    → (request : Request) × Asks name rows request
replay_asks name rows true journal named wants records = (ReplayWithWords, (named, wants))
replay_asks name rows false true named wants records = (ReplayAsJournal, (named, wants, records))
replay_asks name rows false false named wants records = (Run engine.Replay, (named, (λ is. (wants, records))))

run_asks : (name : Text) (rows : List Row) → name ≡ codes "run" → HasNumbers rows → (request : Request) × Asks name rows request
run_asks name rows named numbers =
    let threads = number_is _ _ rows numbers.0 in
    let turns = number_is _ _ rows numbers.1 in
    (Work threads.0 turns.0, (named, threads.1, turns.1))

-- texts that differ are not the same
different : (a b : Text) → bytes_eq a b ≡ false → a ≡ b → ⊥
different a b differ same = true≢false (sym ((bytes_eq-Decides a b).1 same) ∙ differ)

-- each command asks for something
known_asks : (name : Text) (rows : List Row) → IsKnown name rows → (request : Request) × Asks name rows request
known_asks name rows known =
    elim known.listed [
      | inl named ↦ replay_asks name rows _ _ named refl refl
      | inr (inl named) ↦ (Run engine.Serial, (named, (λ is. absurd (different (codes "serial") (codes "replay") refl (sym named ∙ is)))))
      | inr (inr (inl named)) ↦ (Run engine.Check, (named, (λ is. absurd (different (codes "check") (codes "replay") refl (sym named ∙ is)))))
      | inr (inr (inr (inl named))) ↦ run_asks name rows named (known.numbers named)
      | inr (inr (inr (inr (inl named)))) ↦ let word = given (codes "number") rows in (Explain word.0, (named, word.1))
      | inr (inr (inr (inr (inr (inl named))))) ↦ let from = given (codes "from") rows in let to = given (codes "to") rows in let by = given (codes "by") rows in (Draw from.0 to.0 by.0, (named, from.1, to.1, by.1))
      | inr (inr (inr (inr (inr (inr (inl named)))))) ↦ let most = given (codes "states") rows in let reached = given (codes "final") rows in (Explore _ _ most.0 _ reached.0 _, (named, refl, refl, most.1, refl, reached.1, refl))
      | inr (inr (inr (inr (inr (inr (inr (inl named))))))) ↦ let fence = given (codes "fence") rows in (Why fence.0 _ _, (named, fence.1, refl, refl))
      | inr (inr (inr (inr (inr (inr (inr (inr (inl named)))))))) ↦ (Test _, (named, refl))
      | inr (inr (inr (inr (inr (inr (inr (inr (inr (inl named))))))))) ↦
          let limits = given (codes "limit") rows in let tolerance = given (codes "tolerance") rows in (Conform _ _ limits.0 tolerance.0, (named, refl, refl, limits.1, tolerance.1))
      | inr (inr (inr (inr (inr (inr (inr (inr (inr (inr (inl named)))))))))) ↦ (Trace _, (named, refl))
      | inr (inr (inr (inr (inr (inr (inr (inr (inr (inr (inr never)))))))))) ↦ absurd never
    ]

pub anything_asked : (words : List Text) → fault_of program_app words ≡ [] → IsAnythingAsked words
anything_asked words passed =
    let found = command_found words passed in
    let known : IsKnown found.0.0 found.0.1 = record { listed = found.2; numbers = numbers_are_there words found.0.0 found.0.1 passed found.1 } in
    let asks = known_asks found.0.0 found.0.1 known in
    (asks.0, (found.0.0, found.0.1, found.1, asks.1))

-- what is found of words that clap refuses nowhere is known
pub known_found : (words : List Text) (name : Text) (rows : List Row) → fault_of program_app words ≡ [] → subcommand_of program_app words ≡ Some (name, rows) → IsKnown name rows
known_found words name rows passed found =
    let own = command_found words passed in
    let same : own.0 ≡ (name, rows) = same_Some _ _ (sym own.1 ∙ found) in
    record { listed = subst (λ (p : Text × List Row). IsOneOf commands p.0) same own.2; numbers = numbers_are_there words name rows passed found }
