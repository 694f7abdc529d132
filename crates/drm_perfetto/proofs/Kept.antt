-- What a command can't have changed is shown as before.
use Rattle.std.proofs.Common.{◌≡◌, ◌∙◌, ℕ, zero, suc, ◌+◌, ◌<◌, Bool, true, false, cond, ◌&&◌, ◌==◌, List, [], ◌++◌, Option, Some, None, ap, append-nil, arith, length, refl, subst, sym, inl, inr}
use Rattle.std.specs.Prelude.{nat_lt, slice_get}
use Rattle.std.proofs.lemmas.Bool.{cases_lt, eq-eqb, eqb-true}
use Rattle.drm_types.specs.declared.spec.DeviceSpec.{DeviceSpec}
use Rattle.drm_types.specs.Firsts.{first}
use Rattle.drm_job.specs.declared.Draft.{Draft}
use Rattle.drm_state.specs.declared.answer.Answer.{Answer}
use Rattle.drm_state.specs.declared.answer.Answer.TheVariants as gives
use Rattle.drm_state.specs.State.{DeviceState}
use Rattle.drm_state.specs.Choice.{choice, queue_of}
use Rattle.drm_state.specs.Journal.{is_at}
use Rattle.drm_state.specs.Outcomes.{must_stall, stepped_by}
use Rattle.drm_state.specs.Ring.{current_of, head_of}
use Rattle.drm_core.specs.Context.{context_of, holder_of, ticket_of, with_context, with_holder}
use Rattle.drm_core.specs.Outcomes.{armed_core, context_changed, outcome_of_event}
use Rattle.drm_core.specs.Refusals.{plan_of}
use Rattle.drm_core.specs.State.{Context, CoreState}
use Rattle.drm_core.specs.Step.{Step}
use Rattle.drm_core.specs.declared.event.Event.{Event}
use Rattle.drm_core.specs.declared.event.Event.TheVariants as happens
use Rattle.drm_core.proofs.HeadlineSteps.{at_any_record, at_cond, at_option, at_timeout, cases_step}
use Rattle.drm_perfetto.specs.declared.entry.Entry.{Entry}
use Rattle.drm_perfetto.specs.declared.entry.Track.{Track}
use Rattle.drm_perfetto.specs.declared.entry.Track.TheVariants as track
use Rattle.drm_perfetto.specs.declared.entry.When.{When}
use Rattle.drm_perfetto.specs.declared.lanes.Lane.{Lane}
use Rattle.drm_perfetto.specs.declared.lanes.Lane.TheVariants as lane
use Rattle.drm_perfetto.specs.declared.lanes.Row.{Row}
use Rattle.drm_perfetto.specs.declared.named.Named.{Named}
use Rattle.drm_perfetto.specs.declared.rows.Rows.{Rows}
use Rattle.drm_perfetto.specs.Rows.{AllRows, AreRows, DeviceRows, KeepsRows, row_at}
use Rattle.drm_perfetto.specs.Steps.{arrow, begun, changed, credits_entry, each, ended, is_same, moves_device, moves_holders, moves_of, named_of, queued_entry, recounted, turned}
use Rattle.drm_perfetto.specs.Tracks.{count_of, shown}
use Rattle.drm_perfetto.proofs.RowFacts.{arrow_kept, each_alike, each_more}
use Rattle.drm_perfetto.proofs.Unran.{ran_same, same_shown, unran_device}

-- ---- entries

same_itself : (row : Option Row) → is_same row row ≡ true
same_itself None = refl
same_itself (Some row) =
    ap (λ (b : Bool). b && (row.of == row.of)) (eq-eqb row.what row.what refl) ∙ eq-eqb row.of row.of refl

turned_none : (on : Track) (at : ℕ) (row : Option Row) → turned on at row row ≡ []
turned_none on at row = ap (λ (b : Bool). cond b [] (ended on at row ++ begun on at row)) (same_itself row)

recounted_none : (row : Option Row) → recounted row row ≡ None
recounted_none None = refl
recounted_none (Some row) = ap (λ (b : Bool). cond b None (Some row.what)) (same_itself (Some row))

arrow_none : (cause : Option Track) (when : When) (entity : ℕ) (row : Option Row) → arrow cause when entity row row ≡ []
arrow_none None when entity row = refl
arrow_none (Some on) when entity row = sym (arrow_kept on when entity row row (same_itself row))

unchanged : (kind : Lane) (when : When) (cause : Option Track) (number : ℕ) (row : Option Row) → changed kind when cause number row row ≡ []
unchanged lane.Wait when cause number row =
    ap (λ (es : List Entry). es ++ turned (track.Wait number) when.at row row) (arrow_none cause when number row) ∙ turned_none (track.Wait number) when.at row
unchanged lane.Queue when cause number row = turned_none (track.Queue number) when.at row
unchanged lane.Ring when cause number row = turned_none (track.Ring number) when.at row
unchanged lane.Buffer when cause number row = turned_none (track.Buffer number) when.at row
unchanged lane.Credits when cause number row = ap (credits_entry number when.at) (recounted_none row)
unchanged lane.Queued when cause number row = ap (queued_entry number when.at) (recounted_none row)

each_none : (k : ℕ) (entries : ℕ → List Entry) → ((n : ℕ) → entries n ≡ []) → each k entries ≡ []
each_none zero entries none = refl
each_none (suc k) entries none = ap (λ (es : List Entry). es ++ entries k) (each_none k entries none) ∙ none k

left_true : (a b : Bool) → (a && b) ≡ true → a ≡ true
left_true true b is = refl
left_true false b is = is

right_true : (a b : Bool) → (a && b) ≡ true → b ≡ true
right_true true b is = is
right_true false b is = absurd (let no : false ≡ true = is in cc (no))

-- rows that show the same are the same
pub same_is : (old new : Option Row) → is_same old new ≡ true → old ≡ new
same_is None None is = refl
same_is None (Some new) is = absurd (let no : false ≡ true = is in cc (no))
same_is (Some old) None is = absurd (let no : false ≡ true = is in cc (no))
same_is (Some old) (Some new) is =
    ap (λ (x : ℕ). Some (record { what = x; of = old.of })) (eqb-true old.what new.what (left_true (old.what == new.what) (old.of == new.of) is))
    ∙ ap (λ (x : ℕ). Some (record { what = new.what; of = x })) (eqb-true old.of new.of (right_true (old.what == new.what) (old.of == new.of) is))

-- of a row that is as it was nothing is told
pub none_told : (kind : Lane) (when : When) (cause : Option Track) (number : ℕ) (old new : Option Row) → old ≡ new → changed kind when cause number old new ≡ []
none_told kind when cause number old new same = ap (λ (r : Option Row). changed kind when cause number r new) same ∙ unchanged kind when cause number new

pub each_stays : (k : ℕ) (f : ℕ → List Entry) → f k ≡ [] → each k f ≡ each (k + 1) f
each_stays k f none = sym (append-nil (each k f)) ∙ ap (λ (es : List Entry). each k f ++ es) (sym none) ∙ each_more k f

pub rows_stay : (rows : List (Option Row)) (f : ℕ → Option Row) (k : ℕ) → ((n : ℕ) → n < k → row_at rows n ≡ f n) → row_at rows k ≡ f k → (n : ℕ) → n < k + 1 → row_at rows n ≡ f n
rows_stay rows f k so is n lt =
    elim (cases_lt n k) [
      | inl below ↦ so n below
      | inr least ↦
          let here : n ≡ k = omega (arith, least, lt) in
          ap (row_at rows) here ∙ is ∙ ap f (sym here)
    ]

-- rows that are those of a state already bring no entry
pub none_followed : (core : CoreState) (kind : Lane) (when : When) (cause : Option Track) (rows : List (Option Row)) → AreRows core kind rows
    → [] ≡ each (count_of core.device.spec kind) (λ n. changed kind when cause n (row_at rows n) (shown core kind n))
none_followed core kind when cause rows are =
    let k = count_of core.device.spec kind in
    let same = λ (n : ℕ). changed kind when cause n (shown core kind n) (shown core kind n) in
    sym (each_alike k (λ n. changed kind when cause n (row_at rows n) (shown core kind n)) same (λ n lt. ap (λ (r : Option Row). changed kind when cause n r (shown core kind n)) (are.1 n lt))
    ∙ each_none k same (λ n. unchanged kind when cause n (shown core kind n)))

-- ---- states

never : {X : Type 0} → true ≡ false → X
never is = absurd (let no : true ≡ false = is in cc (no))

context_device : (s : CoreState) (ctx : ℕ) (change : Context → Context) → (context_changed s ctx change).device ≡ s.device
context_device s ctx change =
    at_option (λ (n : CoreState). n.device ≡ s.device) (λ (c : Context). with_context s ctx (Some (change c))) (context_of s ctx) s refl (λ c. refl)

context_holders : (s : CoreState) (ctx : ℕ) (change : Context → Context) → (context_changed s ctx change).holders ≡ s.holders
context_holders s ctx change =
    at_option (λ (n : CoreState). n.holders ≡ s.holders) (λ (c : Context). with_context s ctx (Some (change c))) (context_of s ctx) s refl (λ c. refl)

-- by such an answer the device stays, but for its memory and how many packets its jobs have run
abbrev KeepsDevice : DeviceState → Named → Answer × DeviceState → Type 0
KeepsDevice d named p = moves_device named p.0 ≡ false → unran_device p.1 ≡ unran_device d

device_kept : (s : CoreState) (e : Event Draft) → moves_device (named_of e) (outcome_of_event s e).0 ≡ false → unran_device (outcome_of_event s e).1.device ≡ unran_device s.device
device_kept s (happens.Submit draft) is = never is
device_kept s (happens.Begin ctx) is = refl
device_kept s (happens.Try ctx b) is =
    at_option (λ (p : Answer × CoreState). unran_device p.1.device ≡ unran_device s.device) _ (holder_of s b) (gives.Held, with_holder s b (Some ctx)) refl
    (λ h. at_cond (λ (p : Answer × CoreState). unran_device p.1.device ≡ unran_device s.device) (nat_lt (ticket_of s h) (ticket_of s ctx)) _ _ refl refl)
device_kept s (happens.Done ctx) is = ap unran_device (context_device s ctx _)
device_kept s (happens.Drop ctx b) is = ap unran_device (context_device (with_holder s b None) ctx _)
device_kept s (happens.End ctx) is = refl
device_kept s (happens.Plan ctx draft) is = ap unran_device (context_device s ctx _)
device_kept s (happens.Arm ctx) is =
    at_option (λ (p : Answer × CoreState). moves_device (named_of (happens.Arm ctx)) p.0 ≡ false → unran_device p.1.device ≡ unran_device s.device) _ (plan_of s ctx) (gives.Ok, s) (λ still. refl) (λ job still. never still) is
device_kept s (happens.Pick ring now) is =
    at_any_record (KeepsDevice s.device (named_of (happens.Pick ring now))) s.device _ (gives.Ok, s.device) (choice s.device ring) (λ still. refl) (λ f r still. never still) is
device_kept s (happens.Step ring) is =
    let P = KeepsDevice s.device (named_of (happens.Step ring)) in
    at_any_record P s.device _ (gives.Ok, s.device) (current_of s.device ring) (λ still. refl)
    (λ f r. at_option P (stepped_by s.device f) (slice_get r.job.packets r.ran) (gives.Ok, s.device) (λ still. refl)
    (λ p. at_cond P (is_at s.device.journal f (λ r. must_stall p r.karma.resets)) _ _ (λ still. refl) (λ still. ran_same s.device f p))) is
device_kept s (happens.Finish ring now) is =
    at_any_record (KeepsDevice s.device (named_of (happens.Finish ring now))) s.device _ (gives.Ok, s.device) (head_of s.device ring) (λ still. refl) (λ f r still. never still) is
device_kept s (happens.Timeout ring now) is =
    at_timeout (KeepsDevice s.device (named_of (happens.Timeout ring now))) s.device ring now (λ a still. refl) (λ still. refl) (λ still. refl) (λ f still. never still) (λ f e still. never still) is
device_kept s (happens.Cancel entity) is = never is
device_kept s (happens.Reap entity) is =
    at_option (KeepsDevice s.device (named_of (happens.Reap entity))) _ (first (queue_of entity s.device.journal)) (gives.Ok, s.device) (λ still. refl) (λ n still. never still) is
device_kept s (happens.Read ctx b) is = refl
device_kept s (happens.Status fence) is = refl
device_kept s (happens.Dump b) is = refl

holders_kept : (s : CoreState) (e : Event Draft) → moves_holders (named_of e) (outcome_of_event s e).0 ≡ false → (outcome_of_event s e).1.holders ≡ s.holders
holders_kept s (happens.Submit draft) is = refl
holders_kept s (happens.Begin ctx) is = refl
holders_kept s (happens.Try ctx b) is =
    at_option (λ (p : Answer × CoreState). moves_holders (named_of (happens.Try ctx b)) p.0 ≡ false → p.1.holders ≡ s.holders) _ (holder_of s b) (gives.Held, with_holder s b (Some ctx)) (λ still. never still)
    (λ h. at_cond (λ (p : Answer × CoreState). moves_holders (named_of (happens.Try ctx b)) p.0 ≡ false → p.1.holders ≡ s.holders) (nat_lt (ticket_of s h) (ticket_of s ctx)) _ _ (λ still. refl) (λ still. refl)) is
holders_kept s (happens.Done ctx) is = never is
holders_kept s (happens.Drop ctx b) is = never is
holders_kept s (happens.End ctx) is = never is
holders_kept s (happens.Plan ctx draft) is = context_holders s ctx _
holders_kept s (happens.Arm ctx) is =
    at_option (λ (p : Answer × CoreState). p.1.holders ≡ s.holders) _ (plan_of s ctx) (gives.Ok, s) refl (λ job. context_holders (armed_core s job) ctx _)
holders_kept s (happens.Pick ring now) is = refl
holders_kept s (happens.Step ring) is = refl
holders_kept s (happens.Finish ring now) is = refl
holders_kept s (happens.Timeout ring now) is = refl
holders_kept s (happens.Cancel entity) is = refl
holders_kept s (happens.Reap entity) is = refl
holders_kept s (happens.Read ctx b) is = refl
holders_kept s (happens.Status fence) is = refl
holders_kept s (happens.Dump b) is = refl

device_stays : (old new : CoreState) (e : Event Draft) (a : Answer) → Step old e a new → moves_device (named_of e) a ≡ false → unran_device new.device ≡ unran_device old.device
device_stays old new e a step still = elim (cases_step old e a new step) [
  | inl refused ↦ ap (λ (s : CoreState). unran_device s.device) refused.keeps
  | inr had ↦ ap (λ (s : CoreState). unran_device s.device) had.leaves ∙ device_kept old e (subst (λ (a : Answer). moves_device (named_of e) a ≡ false) had.answers still)
]

holders_stay : (old new : CoreState) (e : Event Draft) (a : Answer) → Step old e a new → moves_holders (named_of e) a ≡ false → new.holders ≡ old.holders
holders_stay old new e a step still = elim (cases_step old e a new step) [
  | inl refused ↦ ap (λ (s : CoreState). s.holders) refused.keeps
  | inr had ↦ ap (λ (s : CoreState). s.holders) had.leaves ∙ holders_kept old e (subst (λ (a : Answer). moves_holders (named_of e) a ≡ false) had.answers still)
]

-- ---- rows

-- rows of lanes that show what they showed
rows_alike : (old new : CoreState) (kind : Lane) (rows : List (Option Row)) → old.device.spec ≡ new.device.spec → ((number : ℕ) → shown old kind number ≡ shown new kind number) → AreRows old kind rows
    → AreRows new kind rows
rows_alike old new kind rows spec same are =
    subst (λ (spec : DeviceSpec). (length rows ≡ count_of spec kind) × ((number : ℕ) → number < count_of spec kind → row_at rows number ≡ shown new kind number)) spec
    (are.0, λ number lt. are.1 number lt ∙ same number)

device_rows : (old new : CoreState) (rows : Rows) → unran_device new.device ≡ unran_device old.device → AllRows old rows → DeviceRows new rows
device_rows old new rows same all =
    let spec : old.device.spec ≡ new.device.spec = ap (λ (d : DeviceState). d.spec) (sym same) in
    let other : (kind : Lane) (number : ℕ) → shown (record old { device = unran_device old.device }) kind number ≡ shown (record old { device = unran_device new.device }) kind number =
    λ kind number. ap (λ (d : DeviceState). shown (record old { device = d }) kind number) (sym same) in
    record {
      wait = rows_alike old new lane.Wait rows.wait.items spec (λ n. sym (same_shown old lane.Wait n) ∙ other lane.Wait n ∙ same_shown new lane.Wait n) all.wait;
      queue = rows_alike old new lane.Queue rows.queue.items spec (λ n. sym (same_shown old lane.Queue n) ∙ other lane.Queue n ∙ same_shown new lane.Queue n) all.queue;
      ring = rows_alike old new lane.Ring rows.ring.items spec (λ n. sym (same_shown old lane.Ring n) ∙ other lane.Ring n ∙ same_shown new lane.Ring n) all.ring;
      credits = rows_alike old new lane.Credits rows.credits.items spec (λ n. sym (same_shown old lane.Credits n) ∙ other lane.Credits n ∙ same_shown new lane.Credits n) all.credits;
      queued = rows_alike old new lane.Queued rows.queued.items spec (λ n. sym (same_shown old lane.Queued n) ∙ other lane.Queued n ∙ same_shown new lane.Queued n) all.queued;
    }

buffer_rows : (old new : CoreState) (rows : List (Option Row)) → new.holders ≡ old.holders → old.device.spec ≡ new.device.spec → AreRows old lane.Buffer rows → AreRows new lane.Buffer rows
buffer_rows old new rows same spec are =
    rows_alike old new lane.Buffer rows spec (λ number. ap (λ (holders : List (Option ℕ)). shown (record old { holders = holders }) lane.Buffer number) (sym same)) are

-- the rows of what was not moved are those of the state behind the command
pub rows_kept : (old new : CoreState) (e : Event Draft) (a : Answer) (named : Named) (rows : Rows) → named ≡ named_of e → Step old e a new → old.device.spec ≡ new.device.spec → AllRows old rows
    → KeepsRows (moves_of named a) new rows
rows_kept old new e a named rows is step spec all = record {
  device = λ still. device_rows old new rows (device_stays old new e a step (subst (λ (n : Named). moves_device n a ≡ false) is still)) all;
  holders = λ still. buffer_rows old new rows.buffer.items (holders_stay old new e a step (subst (λ (n : Named). moves_holders n a ≡ false) is still)) spec all.buffer;
}
