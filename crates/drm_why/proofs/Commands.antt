-- The text of a command is the front of its line.
use Rattle.std.proofs.Common.{◌≡◌, ℕ, List, [], ◌∷◌, ◌++◌, None, Some, append_assoc, append-nil, refl, sym, ap, ◌∙◌}
use Rattle.std.specs.Prelude.{codes}
use Rattle.std.specs.Fmt.{decimal}
use Rattle.std.specs.List.{join_with_byte}
use Rattle.drm_job.specs.declared.Draft.{Draft}
use Rattle.drm_core.specs.declared.event.Event.TheVariants as event
use Rattle.drm_parse.specs.Grammar.{item_words}
use Rattle.drm_why.specs.Texts.{TextsBeginLines}

-- a word and numbers, with no job behind them
one_word : (word a : List ℕ) → word ++ 32 ∷ a ≡ word ++ ((32 ∷ a) ++ []) ++ [] ++ []
one_word word a =
    let front = word ++ ((32 ∷ a) ++ []) in
    ap (λ (t : List ℕ). word ++ t) (sym (append-nil (32 ∷ a))) ∙ sym (append-nil front) ∙ sym (append-nil (front ++ []))

two_words : (word a b : List ℕ) → word ++ 32 ∷ (a ++ 32 ∷ b) ≡ word ++ ((32 ∷ a) ++ ((32 ∷ b) ++ [])) ++ [] ++ []
two_words word a b =
    let front = word ++ ((32 ∷ a) ++ ((32 ∷ b) ++ [])) in
    ap (λ (t : List ℕ). word ++ ((32 ∷ a) ++ t)) (sym (append-nil (32 ∷ b))) ∙ sym (append-nil front) ∙ sym (append-nil (front ++ []))

-- a word, the entity of a job, and more of the job, with or without a number before
entity_behind : (word entity rest : List ℕ) → word ++ 32 ∷ (entity ++ rest) ≡ word ++ (32 ∷ entity) ++ rest
entity_behind word entity rest = sym (append_assoc word (32 ∷ entity) rest)

entity_behind_one : (word a entity rest : List ℕ) → word ++ 32 ∷ (a ++ 32 ∷ (entity ++ rest)) ≡ word ++ ((32 ∷ a) ++ []) ++ (32 ∷ entity) ++ rest
entity_behind_one word a entity rest =
    ap (λ (t : List ℕ). word ++ (t ++ 32 ∷ (entity ++ rest))) (sym (append-nil (32 ∷ a)))
    ∙ sym (append_assoc word ((32 ∷ a) ++ []) (32 ∷ (entity ++ rest)))
    ∙ sym (append_assoc (word ++ ((32 ∷ a) ++ [])) (32 ∷ entity) rest)

-- what stands behind the entity of a job
abbrev behind_entity : Draft → List ℕ
behind_entity job = 32 ∷ join_with_byte 32 (decimal job.credits ∷ item_words job.declared job.after job.packets)

pub texts_begin : TextsBeginLines
texts_begin (event.Submit job) = record {
  rest = behind_entity job;
  line = entity_behind (codes "submit") (decimal job.entity) (behind_entity job);
  whole = λ none. absurd (let never : Some job ≡ None = none in cc (never));
}
texts_begin (event.Begin ctx) = record { rest = []; line = one_word (codes "begin") (decimal ctx); whole = λ none. refl }
texts_begin (event.Try ctx buffer) = record { rest = []; line = two_words (codes "try") (decimal ctx) (decimal buffer); whole = λ none. refl }
texts_begin (event.Done ctx) = record { rest = []; line = one_word (codes "done") (decimal ctx); whole = λ none. refl }
texts_begin (event.Drop ctx buffer) = record { rest = []; line = two_words (codes "drop") (decimal ctx) (decimal buffer); whole = λ none. refl }
texts_begin (event.End ctx) = record { rest = []; line = one_word (codes "end") (decimal ctx); whole = λ none. refl }
texts_begin (event.Plan ctx job) = record {
  rest = behind_entity job;
  line = entity_behind_one (codes "plan") (decimal ctx) (decimal job.entity) (behind_entity job);
  whole = λ none. absurd (let never : Some job ≡ None = none in cc (never));
}
texts_begin (event.Arm ctx) = record { rest = []; line = one_word (codes "arm") (decimal ctx); whole = λ none. refl }
texts_begin (event.Pick ring now) = record { rest = []; line = two_words (codes "pick") (decimal ring) (decimal now); whole = λ none. refl }
texts_begin (event.Step ring) = record { rest = []; line = one_word (codes "step") (decimal ring); whole = λ none. refl }
texts_begin (event.Finish ring now) = record { rest = []; line = two_words (codes "finish") (decimal ring) (decimal now); whole = λ none. refl }
texts_begin (event.Timeout ring now) = record { rest = []; line = two_words (codes "timeout") (decimal ring) (decimal now); whole = λ none. refl }
texts_begin (event.Cancel entity) = record { rest = []; line = one_word (codes "cancel") (decimal entity); whole = λ none. refl }
texts_begin (event.Reap entity) = record { rest = []; line = one_word (codes "reap") (decimal entity); whole = λ none. refl }
texts_begin (event.Read ctx buffer) = record { rest = []; line = two_words (codes "read") (decimal ctx) (decimal buffer); whole = λ none. refl }
texts_begin (event.Status fence) = record { rest = []; line = one_word (codes "fence") (decimal fence); whole = λ none. refl }
texts_begin (event.Dump buffer) = record { rest = []; line = one_word (codes "dump") (decimal buffer); whole = λ none. refl }
