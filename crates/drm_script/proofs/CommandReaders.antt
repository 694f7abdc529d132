-- Command lines are read as they are written, and as nothing else.
use Rattle.std.proofs.Common.{◌≡◌, ℕ, ◌+◌, ◌-◌, ◌^◌, ◌<◌, true, List, [], ◌∷◌, ◌++◌, append_assoc, length, map, Some, Result, Ok, refl, sym, ap, subst, ◌∙◌, arith}
use Rattle.std.specs.Prelude.{codes}
use Rattle.std.specs.List.{AllByRecursion, join_with_byte, list_all}
use Rattle.std.specs.Fmt.{decimal}
use Rattle.std.proofs.lemmas.List.{append-nil}
use Rattle.drm_core.specs.declared.event.Event.{Event}
use Rattle.drm_core.specs.declared.event.Event.TheVariants as event
use Rattle.drm_types.specs.declared.spec.DeviceSpec.{DeviceSpec}
use Rattle.drm_job.specs.declared.Draft.{Draft}
use Rattle.drm_text.specs.Cut.{Words}
use Rattle.drm_text.specs.Grammar.{IsName}
use Rattle.drm_text.specs.declared.fault.Fault.{Fault}
use Rattle.drm_text.specs.declared.keywords.Command.{Command}
use Rattle.drm_text.specs.declared.keywords.Command.TheVariants as command
use Rattle.drm_text.specs.declared.keywords.Keyword.{Keyword}
use Rattle.drm_text.specs.declared.keywords.Keyword.TheVariants as line
use Rattle.drm_text.specs.Keywords.{keyword_text, command_text}
use Rattle.drm_text.specs.Lines.{start_at, last_line, out_of_order}
use Rattle.drm_text.specs.Reading.{◌>>=◌, or_fault}
use Rattle.drm_text.specs.Words.{last_number_at, name_at, last_name_at}
use Rattle.drm_text.proofs.LineReaders.{AreWords, start_takes, start_again, last_takes, cut_lines, keyword_is_word}
use Rattle.drm_text.proofs.Spelled.{is_graphic, decimal_graphic}
use Rattle.drm_text.proofs.WordReaders.{bind_ok, ok_is, or_fault_ok, ReadsWord, ReadsLine, names_read, last_names_read, last_numbers_read}
use Rattle.drm_script.specs.Commands.{context_and_buffer_at, ring_and_moment_at, plan_at, event_at, command_of, event_line, events_of}
use Rattle.drm_parse.specs.Grammar.{IsNumber, job_words, JobFits}
use Rattle.drm_script.specs.Grammar.{IsMoment, command_words, CommandFits}
use Rattle.drm_parse.specs.Job.{job_at}
use Rattle.drm_parse.proofs.HeaderReaders.{same_cons}
use Rattle.drm_parse.proofs.JobReaders.{jobs_read}
use Rattle.drm_parse.proofs.SpelledLines.{some_lines, number_graphic, job_graphic}

-- ---- fields of commands

two_take : {A B X : Type 0} (first : Words → Result (A × Words) Fault) (spell_a : A → List ℕ) (FitsA : A → Type 0) (reads_a : ReadsWord first spell_a FitsA)
    → (second : Words → Result B Fault) (spell_b : B → List (List ℕ)) (FitsB : B → Type 0) (reads_b : ReadsLine second spell_b FitsB)
    → (make : A → B → X) (words : Words) (x : X) → (first words >>= λ a. second a.1 >>= λ b. Ok (make a.0 b)) ≡ Ok x
    → (a : A) × (b : B) × (words.rest.parts ≡ spell_a a ∷ spell_b b) × FitsA a × FitsB b × (make a b ≡ x)
two_take first spell_a FitsA reads_a second spell_b FitsB reads_b make words x e =
    let a = bind_ok (first words) (λ a. second a.1 >>= λ b. Ok (make a.0 b)) x e in
    let b = bind_ok (second a.0.1) (λ b. Ok (make a.0.0 b)) x a.2 in
    let p = reads_a.takes words a.0 a.1 in
    let q = reads_b.takes a.0.1 b.0 b.1 in
    (a.0.0, b.0, p.0 ∙ ap (λ (r : List (List ℕ)). spell_a a.0.0 ∷ r) q.0, p.1, q.1, ok_is (make a.0.0 b.0) x b.2)

two_again : {A B X : Type 0} (first : Words → Result (A × Words) Fault) (spell_a : A → List ℕ) (FitsA : A → Type 0) (reads_a : ReadsWord first spell_a FitsA)
    → (second : Words → Result B Fault) (spell_b : B → List (List ℕ)) (FitsB : B → Type 0) (reads_b : ReadsLine second spell_b FitsB)
    → (make : A → B → X) (words : Words) (a : A) (b : B) → words.rest.parts ≡ spell_a a ∷ spell_b b → FitsA a → FitsB b
    → (first words >>= λ a. second a.1 >>= λ b. Ok (make a.0 b)) ≡ Ok (make a b)
two_again first spell_a FitsA reads_a second spell_b FitsB reads_b make words a b is fits_a fits_b =
    let p = reads_a.again words a (spell_b b) is fits_a in
    rw (p.1, reads_b.again p.0 b p.2 fits_b) refl

abbrev pair_words : ℕ × ℕ → List (List ℕ)
pair_words pair = decimal pair.0 ∷ decimal pair.1 ∷ []

abbrev pair_of : ℕ → ℕ → ℕ × ℕ
pair_of a b = (a, b)

contexts_and_buffers : (spec : DeviceSpec) → ReadsLine (context_and_buffer_at spec) pair_words (λ pair. IsName 64 pair.0 × IsName (length spec.buffers) pair.1)
unfolding context_and_buffer_at
contexts_and_buffers spec = record {
  takes = λ words x e.
      let t = two_take (name_at 64) decimal (IsName 64) (names_read 64) (last_name_at (length spec.buffers)) (λ n. decimal n ∷ []) (IsName (length spec.buffers)) (last_names_read (length spec.buffers)) pair_of words x e in
      subst (λ (y : ℕ × ℕ). (words.rest.parts ≡ pair_words y) × (IsName 64 y.0 × IsName (length spec.buffers) y.1)) t.5 (t.2, (t.3, t.4));
  again = λ words x is fits.
      two_again (name_at 64) decimal (IsName 64) (names_read 64) (last_name_at (length spec.buffers)) (λ n. decimal n ∷ []) (IsName (length spec.buffers)) (last_names_read (length spec.buffers)) pair_of words x.0 x.1 is fits.0 fits.1;
}

moments_read : ReadsLine (last_number_at (2 ^ 64 - 1)) (λ n. decimal n ∷ []) IsMoment
moments_read = last_numbers_read (2 ^ 64 - 1) (omega arith)

rings_and_moments : (spec : DeviceSpec) → ReadsLine (ring_and_moment_at spec) pair_words (λ pair. IsName (length spec.rings) pair.0 × IsMoment pair.1)
unfolding ring_and_moment_at
rings_and_moments spec = record {
  takes = λ words x e.
      let t = two_take (name_at (length spec.rings)) decimal (IsName (length spec.rings)) (names_read (length spec.rings)) (last_number_at (2 ^ 64 - 1)) (λ n. decimal n ∷ []) IsMoment moments_read pair_of words x e in
      subst (λ (y : ℕ × ℕ). (words.rest.parts ≡ pair_words y) × (IsName (length spec.rings) y.0 × IsMoment y.1)) t.5 (t.2, (t.3, t.4));
  again = λ words x is fits.
      two_again (name_at (length spec.rings)) decimal (IsName (length spec.rings)) (names_read (length spec.rings)) (last_number_at (2 ^ 64 - 1)) (λ n. decimal n ∷ []) IsMoment moments_read pair_of words x.0 x.1 is fits.0 fits.1;
}

-- ---- one command

-- the words behind a command's name spell the event
abbrev Spelled : DeviceSpec → Command → List (List ℕ) → Event Draft → Type 0
Spelled spec c parts e = ((command_text c ∷ parts) ≡ command_words e) × CommandFits spec e

made : {X : Type 0} (read : Words → Result X Fault) (spell : X → List (List ℕ)) (Fits : X → Type 0) (reads : ReadsLine read spell Fits)
    → (spec : DeviceSpec) (c : Command) (make : X → Event Draft) (words : Words) (x : Event Draft) → ((y : X) → (command_text c ∷ spell y) ≡ command_words (make y))
    → ((y : X) → Fits y → CommandFits spec (make y)) → (read words >>= λ y. Ok (make y)) ≡ Ok x → Spelled spec c words.rest.parts x
made read spell Fits reads spec c make words x spelled fit e =
    let a = bind_ok (read words) (λ y. Ok (make y)) x e in
    let t = reads.takes words a.0 a.1 in
    subst (λ (z : Event Draft). Spelled spec c words.rest.parts z) (ok_is (make a.0) x a.2) (ap (λ (r : List (List ℕ)). command_text c ∷ r) t.0 ∙ spelled a.0, fit a.0 t.1)

one_name : (spec : DeviceSpec) (count : ℕ) (c : Command) (make : ℕ → Event Draft) (words : Words) (x : Event Draft) → ((n : ℕ) → (command_text c ∷ decimal n ∷ []) ≡ command_words (make n))
    → ((n : ℕ) → IsName count n → CommandFits spec (make n)) → (last_name_at count words >>= λ n. Ok (make n)) ≡ Ok x → Spelled spec c words.rest.parts x
one_name spec count c make words x spelled fit e = made (last_name_at count) (λ n. decimal n ∷ []) (IsName count) (last_names_read count) spec c make words x spelled fit e

two_names : (spec : DeviceSpec) (c : Command) (make : ℕ → ℕ → Event Draft) (words : Words) (x : Event Draft) → ((a b : ℕ) → (command_text c ∷ decimal a ∷ decimal b ∷ []) ≡ command_words (make a b))
    → ((a b : ℕ) → IsName 64 a → IsName (length spec.buffers) b → CommandFits spec (make a b)) → (context_and_buffer_at spec words >>= λ p. Ok (make p.0 p.1)) ≡ Ok x → Spelled spec c words.rest.parts x
two_names spec c make words x spelled fit e =
    made (context_and_buffer_at spec) pair_words (λ pair. IsName 64 pair.0 × IsName (length spec.buffers) pair.1) (contexts_and_buffers spec) spec c (λ p. make p.0 p.1) words x (λ p. spelled p.0 p.1) (λ p fits. fit p.0 p.1 fits.0 fits.1) e

ring_and_moment : (spec : DeviceSpec) (c : Command) (make : ℕ → ℕ → Event Draft) (words : Words) (x : Event Draft) → ((a b : ℕ) → (command_text c ∷ decimal a ∷ decimal b ∷ []) ≡ command_words (make a b))
    → ((a b : ℕ) → IsName (length spec.rings) a → IsMoment b → CommandFits spec (make a b)) → (ring_and_moment_at spec words >>= λ p. Ok (make p.0 p.1)) ≡ Ok x → Spelled spec c words.rest.parts x
ring_and_moment spec c make words x spelled fit e =
    made (ring_and_moment_at spec) pair_words (λ pair. IsName (length spec.rings) pair.0 × IsMoment pair.1) (rings_and_moments spec) spec c (λ p. make p.0 p.1) words x (λ p. spelled p.0 p.1) (λ p fits. fit p.0 p.1 fits.0 fits.1) e

plan_takes : (spec : DeviceSpec) (words : Words) (x : Event Draft) → plan_at words ≡ Ok x → Spelled spec command.Plan words.rest.parts x
plan_takes spec words x e =
    let t = two_take (name_at 64) decimal (IsName 64) (names_read 64) job_at job_words JobFits jobs_read event.Plan words x e in
    subst (λ (z : Event Draft). Spelled spec command.Plan words.rest.parts z) t.5 (ap (λ (r : List (List ℕ)). codes "plan" ∷ r) t.2, (t.3, t.4))

event_takes : (spec : DeviceSpec) (c : Command) (words : Words) (x : Event Draft) → event_at spec c words ≡ Ok x → Spelled spec c words.rest.parts x
unfolding event_at
event_takes spec command.Submit words x e = made job_at job_words JobFits jobs_read spec command.Submit event.Submit words x (λ y. refl) (λ y fits. fits) e
event_takes spec command.Begin words x e = one_name spec 64 command.Begin event.Begin words x (λ n. refl) (λ n fits. fits) e
event_takes spec command.Try words x e = two_names spec command.Try event.Try words x (λ a b. refl) (λ a b p q. (p, q)) e
event_takes spec command.Done words x e = one_name spec 64 command.Done event.Done words x (λ n. refl) (λ n fits. fits) e
event_takes spec command.Drop words x e = two_names spec command.Drop event.Drop words x (λ a b. refl) (λ a b p q. (p, q)) e
event_takes spec command.End words x e = one_name spec 64 command.End event.End words x (λ n. refl) (λ n fits. fits) e
event_takes spec command.Plan words x e = plan_takes spec words x e
event_takes spec command.Arm words x e = one_name spec 64 command.Arm event.Arm words x (λ n. refl) (λ n fits. fits) e
event_takes spec command.Pick words x e = ring_and_moment spec command.Pick event.Pick words x (λ a b. refl) (λ a b p q. (p, q)) e
event_takes spec command.Step words x e = one_name spec (length spec.rings) command.Step event.Step words x (λ n. refl) (λ n fits. fits) e
event_takes spec command.Finish words x e = ring_and_moment spec command.Finish event.Finish words x (λ a b. refl) (λ a b p q. (p, q)) e
event_takes spec command.Timeout words x e = ring_and_moment spec command.Timeout event.Timeout words x (λ a b. refl) (λ a b p q. (p, q)) e
event_takes spec command.Cancel words x e = one_name spec (length spec.entities) command.Cancel event.Cancel words x (λ n. refl) (λ n fits. fits) e
event_takes spec command.Reap words x e = one_name spec (length spec.entities) command.Reap event.Reap words x (λ n. refl) (λ n fits. fits) e
event_takes spec command.Read words x e = two_names spec command.Read event.Read words x (λ a b. refl) (λ a b p q. (p, q)) e
event_takes spec command.Fence words x e =
    made (last_number_at (2 ^ 32 - 1)) (λ n. decimal n ∷ []) IsNumber (last_numbers_read (2 ^ 32 - 1) (omega arith)) spec command.Fence event.Status words x (λ n. refl) (λ n fits. fits) e
event_takes spec command.Dump words x e = one_name spec (length spec.buffers) command.Dump event.Dump words x (λ n. refl) (λ n fits. fits) e

-- the words of an event are those of its command, and these are read as the event
record Written (spec : DeviceSpec) (e : Event Draft) : Type 0 where
  name : Command
  fields : List (List ℕ)
  spelled : command_words e ≡ command_text name ∷ fields
  are : AreWords fields
  again : (words : Words) → words.rest.parts ≡ fields → event_at spec name words ≡ Ok e

name_graphic : (count n : ℕ) → IsName count n → list_all is_graphic (decimal n) ≡ true
name_graphic count n fits = number_graphic n fits.0

one_again : (spec : DeviceSpec) (count n : ℕ) (make : ℕ → Event Draft) (words : Words) → IsName count n → words.rest.parts ≡ decimal n ∷ [] → (last_name_at count words >>= λ n. Ok (make n)) ≡ Ok (make n)
one_again spec count n make words fits is = rw ((last_names_read count).again words n is fits) refl

names_again : (spec : DeviceSpec) (a b : ℕ) (make : ℕ → ℕ → Event Draft) (words : Words) → IsName 64 a → IsName (length spec.buffers) b → words.rest.parts ≡ decimal a ∷ decimal b ∷ []
    → (context_and_buffer_at spec words >>= λ p. Ok (make p.0 p.1)) ≡ Ok (make a b)
names_again spec a b make words p q is = rw ((contexts_and_buffers spec).again words (a, b) is (p, q)) refl

moments_again : (spec : DeviceSpec) (a b : ℕ) (make : ℕ → ℕ → Event Draft) (words : Words) → IsName (length spec.rings) a → IsMoment b → words.rest.parts ≡ decimal a ∷ decimal b ∷ []
    → (ring_and_moment_at spec words >>= λ p. Ok (make p.0 p.1)) ≡ Ok (make a b)
moments_again spec a b make words p q is = rw ((rings_and_moments spec).again words (a, b) is (p, q)) refl

moment_graphic : (n : ℕ) → IsMoment n → list_all is_graphic (decimal n) ≡ true
moment_graphic n small = decimal_graphic n (omega arith)

written : (spec : DeviceSpec) (e : Event Draft) → CommandFits spec e → Written spec e
unfolding event_at
written spec (event.Submit job) fits =
    record { name = command.Submit; fields = job_words job; spelled = refl; are = job_graphic job fits; again = λ words is. rw (jobs_read.again words job is fits) refl }
written spec (event.Begin ctx) fits =
    record { name = command.Begin; fields = decimal ctx ∷ []; spelled = refl; are = (name_graphic 64 ctx fits, tt); again = λ words is. one_again spec 64 ctx event.Begin words fits is }
written spec (event.Try ctx buffer) fits =
    record { name = command.Try; fields = decimal ctx ∷ decimal buffer ∷ []; spelled = refl; are = (name_graphic 64 ctx fits.0, (name_graphic _ buffer fits.1, tt)); again = λ words is. names_again spec ctx buffer event.Try words fits.0 fits.1 is }
written spec (event.Done ctx) fits =
    record { name = command.Done; fields = decimal ctx ∷ []; spelled = refl; are = (name_graphic 64 ctx fits, tt); again = λ words is. one_again spec 64 ctx event.Done words fits is }
written spec (event.Drop ctx buffer) fits =
    record { name = command.Drop; fields = decimal ctx ∷ decimal buffer ∷ []; spelled = refl; are = (name_graphic 64 ctx fits.0, (name_graphic _ buffer fits.1, tt)); again = λ words is. names_again spec ctx buffer event.Drop words fits.0 fits.1 is }
written spec (event.End ctx) fits =
    record { name = command.End; fields = decimal ctx ∷ []; spelled = refl; are = (name_graphic 64 ctx fits, tt); again = λ words is. one_again spec 64 ctx event.End words fits is }
written spec (event.Plan ctx job) fits =
    record {
      name = command.Plan;
      fields = decimal ctx ∷ job_words job;
      spelled = refl;
      are = (name_graphic 64 ctx fits.0, job_graphic job fits.1);
      again = λ words is. two_again (name_at 64) decimal (IsName 64) (names_read 64) job_at job_words JobFits jobs_read event.Plan words ctx job is fits.0 fits.1;
    }
written spec (event.Arm ctx) fits =
    record { name = command.Arm; fields = decimal ctx ∷ []; spelled = refl; are = (name_graphic 64 ctx fits, tt); again = λ words is. one_again spec 64 ctx event.Arm words fits is }
written spec (event.Pick ring now) fits =
    record { name = command.Pick; fields = decimal ring ∷ decimal now ∷ []; spelled = refl; are = (name_graphic _ ring fits.0, (moment_graphic now fits.1, tt)); again = λ words is. moments_again spec ring now event.Pick words fits.0 fits.1 is }
written spec (event.Step ring) fits =
    record { name = command.Step; fields = decimal ring ∷ []; spelled = refl; are = (name_graphic _ ring fits, tt); again = λ words is. one_again spec (length spec.rings) ring event.Step words fits is }
written spec (event.Finish ring now) fits =
    record { name = command.Finish; fields = decimal ring ∷ decimal now ∷ []; spelled = refl; are = (name_graphic _ ring fits.0, (moment_graphic now fits.1, tt)); again = λ words is. moments_again spec ring now event.Finish words fits.0 fits.1 is }
written spec (event.Timeout ring now) fits =
    record { name = command.Timeout; fields = decimal ring ∷ decimal now ∷ []; spelled = refl; are = (name_graphic _ ring fits.0, (moment_graphic now fits.1, tt)); again = λ words is. moments_again spec ring now event.Timeout words fits.0 fits.1 is }
written spec (event.Cancel entity) fits =
    record { name = command.Cancel; fields = decimal entity ∷ []; spelled = refl; are = (name_graphic _ entity fits, tt); again = λ words is. one_again spec (length spec.entities) entity event.Cancel words fits is }
written spec (event.Reap entity) fits =
    record { name = command.Reap; fields = decimal entity ∷ []; spelled = refl; are = (name_graphic _ entity fits, tt); again = λ words is. one_again spec (length spec.entities) entity event.Reap words fits is }
written spec (event.Read ctx buffer) fits =
    record { name = command.Read; fields = decimal ctx ∷ decimal buffer ∷ []; spelled = refl; are = (name_graphic 64 ctx fits.0, (name_graphic _ buffer fits.1, tt)); again = λ words is. names_again spec ctx buffer event.Read words fits.0 fits.1 is }
written spec (event.Status fence) fits =
    record { name = command.Fence; fields = decimal fence ∷ []; spelled = refl; are = (number_graphic fence fits, tt); again = λ words is. rw ((last_numbers_read (2 ^ 32 - 1) (omega arith)).again words fence is fits) refl }
written spec (event.Dump buffer) fits =
    record { name = command.Dump; fields = decimal buffer ∷ []; spelled = refl; are = (name_graphic _ buffer fits, tt); again = λ words is. one_again spec (length spec.buffers) buffer event.Dump words fits is }

-- the words of a command line are words
pub command_graphic : (spec : DeviceSpec) (e : Event Draft) → CommandFits spec e → AreWords (command_words e)
command_graphic spec e fits =
    let w = written spec e fits in subst AreWords (sym w.spelled) (keyword_is_word (line.Command w.name), w.are)

-- ---- lines

command_takes : (keyword : Keyword) (c : Command) → command_of keyword ≡ Some c → keyword_text keyword ≡ command_text c
command_takes line.Buffer c e = absurd (cc)
command_takes line.Zero c e = absurd (cc)
command_takes line.Ring c e = absurd (cc)
command_takes line.Entity c e = absurd (cc)
command_takes line.Jobs c e = absurd (cc)
command_takes line.Go c e = absurd (cc)
command_takes line.Job c e = absurd (cc)
command_takes line.Final c e = absurd (cc)
command_takes (line.Command d) c e = ap command_text (let same : d ≡ c = cc in same)

-- a line that is read as a command is the command's words
pub line_takes : (spec : DeviceSpec) (n : ℕ) (bytes : List ℕ) (x : Event Draft) → event_line spec n bytes ≡ Ok x → (bytes ≡ join_with_byte 32 (command_words x)) × CommandFits spec x
unfolding event_line
line_takes spec n bytes x e =
    let a = bind_ok (start_at n bytes) (λ start. or_fault (command_of start.0) (out_of_order n) >>= λ c. event_at spec c start.1) x e in
    let b = bind_ok (or_fault (command_of a.0.0) (out_of_order n)) (λ c. event_at spec c a.0.1) x a.2 in
    let name = command_takes a.0.0 b.0 (or_fault_ok (command_of a.0.0) (out_of_order n) b.0 b.1) in
    let t = event_takes spec b.0 a.0.1 x b.2 in
    (start_takes n bytes a.0 a.1 ∙ ap (λ (w : List ℕ). join_with_byte 32 (w ∷ a.0.1.rest.parts)) name ∙ ap (join_with_byte 32) t.0, t.1)

pub line_again : (spec : DeviceSpec) (n : ℕ) (x : Event Draft) → CommandFits spec x → event_line spec n (join_with_byte 32 (command_words x)) ≡ Ok x
unfolding event_line
line_again spec n x fits =
    let w = written spec x fits in
    let s = start_again n (line.Command w.name) w.fields w.are in
    rw (ap (join_with_byte 32) w.spelled, s.1, w.again s.0 s.2) refl

abbrev pub Commands : DeviceSpec → List (Event Draft) → Type 0
Commands spec events = AllByRecursion (CommandFits spec) events

-- the lines up to the end of the text are command lines
pub events_take : (spec : DeviceSpec) (events : List (Event Draft)) (n : ℕ) (bytes : List ℕ) (more : List (List ℕ)) (all : List (Event Draft)) → events_of spec events n bytes more ≡ Ok all
    → (tail : List (Event Draft)) × ((bytes ∷ more) ≡ cut_lines (map command_words tail)) × Commands spec tail × (all ≡ events ++ tail)
unfolding events_of
events_take spec events n bytes [] all e =
    let a = bind_ok (last_line n bytes) (λ _. Ok events) all e in
    ([], ap (λ (b : List ℕ). b ∷ []) (last_takes n bytes a.0 a.1), tt, sym (ok_is events all a.2) ∙ sym (append-nil events))
events_take spec events n bytes (next ∷ rest) all e =
    let a = bind_ok (event_line spec n bytes) (λ x. events_of spec (events ++ x ∷ []) (n + 1) next rest) all e in
    let first = line_takes spec n bytes a.0 a.1 in
    let others = events_take spec (events ++ a.0 ∷ []) (n + 1) next rest all a.2 in
    (a.0 ∷ others.0, same_cons _ _ _ _ first.0 others.1, (first.1, others.2), others.3 ∙ append_assoc events (a.0 ∷ []) others.0)

-- the events of parts that are lines
abbrev pub events_in : DeviceSpec → List (Event Draft) → ℕ → List (List ℕ) → Result (List (Event Draft)) Fault
events_in spec events n [] = Ok events
events_in spec events n (bytes ∷ more) = events_of spec events n bytes more

one_event : (spec : DeviceSpec) (events : List (Event Draft)) (n : ℕ) (bytes : List ℕ) (more : List (List ℕ)) → 0 < length more
    → events_in spec events n (bytes ∷ more) ≡ (event_line spec n bytes >>= λ x. events_in spec (events ++ x ∷ []) (n + 1) more)
unfolding events_of
one_event spec events n bytes [] some = absurd (omega arith)
one_event spec events n bytes (next ∷ rest) some = refl

-- command lines are read as their events
pub events_again : (spec : DeviceSpec) (events : List (Event Draft)) (n : ℕ) (tail : List (Event Draft)) → Commands spec tail → events_in spec events n (cut_lines (map command_words tail)) ≡ Ok (events ++ tail)
unfolding events_of
events_again spec events n [] fit = ap (λ (es : List (Event Draft)). Ok es) (sym (append-nil events))
events_again spec events n (x ∷ tail) fit =
    one_event spec events n (join_with_byte 32 (command_words x)) (cut_lines (map command_words tail)) (some_lines (map command_words tail))
    ∙ ap (λ (r : Result (Event Draft) Fault). r >>= λ y. events_in spec (events ++ y ∷ []) (n + 1) (cut_lines (map command_words tail))) (line_again spec n x fit.0)
    ∙ events_again spec (events ++ x ∷ []) (n + 1) tail fit.1
    ∙ ap (λ (es : List (Event Draft)). Ok es) (append_assoc events (x ∷ []) tail)
