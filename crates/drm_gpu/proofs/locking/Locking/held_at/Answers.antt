use Rattle.std.proofs.Common.{◌≡◌, ◌≤◌, ◌∙◌, ℕ, ap, sym, arith, length, get_or, Some, None, slice_get}
use Rattle.std.specs.Prelude.{List, Option, option_map}
use Rattle.std.proofs.lemmas.Option.{slice_get-get_or, slice_get-map, slice_get_past}
use Rattle.drm_resv.specs.Reservation.{Reservation, WithRoom}
use Rattle.drm_state.specs.Held.{kept_of}
use Rattle.drm_gpu.specs.Submissions.{Submission}
use Rattle.drm_gpu.proofs.locking.Locking.held_at.Goals as goal

-- the number of what stands at a place, without its room
number_at : (xs : List (ℕ × WithRoom)) (k : ℕ) (o : Option (ℕ × WithRoom)) → slice_get xs k ≡ o
    → option_map (λ (h : ℕ × Reservation). h.0) (slice_get (kept_of xs) k) ≡ option_map (λ (h : ℕ × Reservation). h.0) (option_map (λ (h : ℕ × WithRoom). (h.0, h.1.kept)) o)
number_at xs k o at =
    ap (option_map (λ (h : ℕ × Reservation). h.0)) (slice_get-map (λ (h : ℕ × WithRoom). (h.0, h.1.kept)) xs k ∙ ap (option_map (λ (h : ℕ × WithRoom). (h.0, h.1.kept))) at)

pub returns-then-place-held : goal.returns-then-place-held
returns-then-place-held c =
    let xs = c.held-held.result.now in
    let k = c.args.place in
    let d = c.index-held-place.result in
    let at : slice_get xs k ≡ Some (get_or xs k d) = slice_get-get_or xs k d c.if-place-held.true in
    sym (ap (λ (s : Submission). option_map (λ (h : ℕ × Reservation). h.0) (slice_get s.held k)) (sym c.self.view_is)
    ∙ number_at c.self.inside.acquire.seat.held.items k (Some (get_or xs k d)) (ap (λ l. slice_get l k) (sym c.held-held.ensures) ∙ at))

pub returns-else-place-held : goal.returns-else-place-held
returns-else-place-held c =
    let xs = c.held-held.result.now in
    let k = c.args.place in
    let past : length xs ≤ k = let less = c.if-place-held.false in omega (arith, less) in
    sym (ap (λ (s : Submission). option_map (λ (h : ℕ × Reservation). h.0) (slice_get s.held k)) (sym c.self.view_is)
    ∙ number_at c.self.inside.acquire.seat.held.items k None (ap (λ l. slice_get l k) (sym c.held-held.ensures) ∙ slice_get_past xs k past))
