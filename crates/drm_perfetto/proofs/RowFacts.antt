-- Rows of lanes, and what is told of each.
use Rattle.std.proofs.Common.{◌≡◌, ◌∙◌, ◌≢◌, ℕ, true, false, Some, None, zero, suc, ◌+◌, ◌<◌, ◌≤◌, List, [], ◌∷◌, ◌++◌, Option, ap, arith, inl, inr, length, refl, set, subst, sym}
use Rattle.std.specs.Prelude.{is_some, option_and_then}
use Rattle.std.proofs.lemmas.Bool.{cases_lt}
use Rattle.drm_lists.proofs.Changed.{get_set_other, get_set_within}
use Rattle.drm_types.specs.declared.spec.DeviceSpec.{DeviceSpec}
use Rattle.drm_core.specs.State.{CoreState}
use Rattle.drm_stream.specs.Streams.{SinkState}
use Rattle.drm_perfetto.specs.declared.entry.Entry.{Entry}
use Rattle.drm_perfetto.specs.declared.entry.Track.{Track}
use Rattle.drm_perfetto.specs.declared.entry.When.{When}
use Rattle.drm_perfetto.specs.declared.lanes.Lane.{Lane}
use Rattle.drm_perfetto.specs.declared.lanes.Row.{Row}
use Rattle.drm_perfetto.specs.declared.pen.Pen.{Pen}
use Rattle.drm_perfetto.specs.declared.rows.Rows.{Rows}
use Rattle.drm_perfetto.specs.Pens.{AddsEntries}
use Rattle.drm_perfetto.specs.Rows.{AllRows, AreRows, HaveRoom, row_at}
use Rattle.drm_perfetto.specs.Steps.{arrow, arrow_between, changed, changes, each, is_same}
use Rattle.drm_perfetto.specs.Tracks.{count_of, shown}
use Rattle.drm_perfetto.proofs.Pens.{entries_same}

-- ---- what is given of each number

pub each_more : (k : ℕ) (f : ℕ → List Entry) → each k f ++ f k ≡ each (k + 1) f
each_more k f = let next : suc k ≡ k + 1 = omega arith in subst (λ (n : ℕ). each k f ++ f k ≡ each n f) next refl

pub each_alike : (k : ℕ) (f g : ℕ → List Entry) → ((n : ℕ) → n < k → f n ≡ g n) → each k f ≡ each k g
each_alike zero f g alike = refl
each_alike (suc k) f g alike =
    ap (λ (es : List Entry). es ++ f k) (each_alike k f g (λ n lt. alike n (omega (arith, lt)))) ∙ ap (λ (es : List Entry). each k g ++ es) (alike k (omega arith))

-- ---- rows

pub row_pushed : (rows : List (Option Row)) (row : Option Row) (n : ℕ) → n < length rows → row_at (rows ++ row ∷ []) n ≡ row_at rows n
row_pushed [] row n lt = absurd (omega (arith, lt))
row_pushed (r ∷ rows) row zero lt = refl
row_pushed (r ∷ rows) row (suc n) lt = row_pushed rows row n (omega (arith, lt))

pub row_last : (rows : List (Option Row)) (row : Option Row) → row_at (rows ++ row ∷ []) (length rows) ≡ row
row_last [] row = refl
row_last (r ∷ rows) row = row_last rows row

-- one row more
pub rows_more : (rows : List (Option Row)) (row : Option Row) (f : ℕ → Option Row) (k : ℕ) → length rows ≡ k → ((n : ℕ) → n < k → row_at rows n ≡ f n) → row ≡ f k
    → (n : ℕ) → n < k + 1 → row_at (rows ++ row ∷ []) n ≡ f n
rows_more rows row f k count so is n lt =
    elim (cases_lt n k) [
      | inl below ↦ row_pushed rows row n (omega (arith, below, count)) ∙ so n below
      | inr least ↦
          let here : n ≡ k = omega (arith, least, lt) in
          ap (row_at (rows ++ row ∷ [])) (here ∙ sym count) ∙ row_last rows row ∙ is ∙ ap f (sym here)
    ]

pub row_set : (rows : List (Option Row)) (k : ℕ) (row : Option Row) → k < length rows → row_at (set rows k row) k ≡ row
row_set rows k row lt = ap (option_and_then (λ (o : Option Row). o)) (get_set_within rows k row lt)

pub row_beside : (rows : List (Option Row)) (k n : ℕ) (row : Option Row) → n ≢ k → row_at (set rows k row) n ≡ row_at rows n
row_beside rows k n row apart = ap (option_and_then (λ (o : Option Row). o)) (get_set_other rows k n row apart)

-- rows of which one more is new
pub rows_done : (rows : List (Option Row)) (row : Option Row) (f : ℕ → Option Row) (k : ℕ) → k < length rows → ((n : ℕ) → n < k → row_at rows n ≡ f n) → row ≡ f k
    → (n : ℕ) → n < k + 1 → row_at (set rows k row) n ≡ f n
rows_done rows row f k within so is n lt =
    elim (cases_lt n k) [
      | inl below ↦ row_beside rows k n row (λ same. omega (arith, same, below)) ∙ so n below
      | inr least ↦
          let here : n ≡ k = omega (arith, least, lt) in
          ap (row_at (set rows k row)) here ∙ row_set rows k row within ∙ is ∙ ap f (sym here)
    ]

-- and those behind it are left
pub rows_left : (rows was : List (Option Row)) (row : Option Row) (k : ℕ) → ((n : ℕ) → k ≤ n → row_at rows n ≡ row_at was n)
    → (n : ℕ) → k + 1 ≤ n → row_at (set rows k row) n ≡ row_at was n
rows_left rows was row k so n from = row_beside rows k n row (λ same. omega (arith, same, from)) ∙ so n (omega (arith, from))

-- ---- what changes in lanes

-- the changes by rows of a state are those of the state
pub told_of_rows : {a b : Pen} {p q : SinkState} (old new : CoreState) (kind : Lane) (when : When) (cause : Option Track) (rows : List (Option Row)) → old.device.spec ≡ new.device.spec → AreRows old kind rows
    → AddsEntries a p (each (count_of new.device.spec kind) (λ n. changed kind when cause n (row_at rows n) (shown new kind n))) b q
    → AddsEntries a p (changes new.device.spec when cause old new kind) b q
told_of_rows {a} {b} {p} {q} old new kind when cause rows same are adds =
    entries_same
    (each_alike (count_of new.device.spec kind) (λ n. changed kind when cause n (row_at rows n) (shown new kind n)) (λ n. changed kind when cause n (shown old kind n) (shown new kind n))
    (λ n lt. ap (λ (r : Option Row). changed kind when cause n r (shown new kind n)) (are.1 n (subst (λ (spec : DeviceSpec). n < count_of spec kind) (sym same) lt))))
    adds

-- the rows of a state have room for those of another on the same device
pub have_room : (old new : CoreState) (rows : Rows) → old.device.spec ≡ new.device.spec → AllRows old rows → HaveRoom new.device.spec rows
have_room old new rows same all =
    subst (λ (spec : DeviceSpec). HaveRoom spec rows) same
    (record { wait = all.wait.0; queue = all.queue.0; ring = all.ring.0; buffer = all.buffer.0; credits = all.credits.0; queued = all.queued.0 })

-- ---- arrows

-- there is none where nothing waited, nor where the same waits still
pub arrow_none : (on : Track) (when : When) (entity : ℕ) (old new : Option Row) → is_some old ≡ false → [] ≡ arrow (Some on) when entity old new
arrow_none on when entity None new none = refl
arrow_none on when entity (Some row) new none = absurd (let never : true ≡ false = none in cc (never))

pub arrow_kept : (on : Track) (when : When) (entity : ℕ) (old new : Option Row) → is_same old new ≡ true → [] ≡ arrow (Some on) when entity old new
arrow_kept on when entity None new same = refl
arrow_kept on when entity (Some row) new same = rw same refl

-- else there is one
pub arrow_put : (on : Track) (when : When) (entity : ℕ) (old new : Option Row) → is_some old ≡ true → is_same old new ≡ false → arrow_between on when entity ≡ arrow (Some on) when entity old new
arrow_put on when entity None new some other = absurd (let never : false ≡ true = some in cc (never))
arrow_put on when entity (Some row) new some other = rw other refl
