-- Lanes one below another, one more.
use Rattle.std.proofs.Common.{◌≡◌, ◌∙◌, ℕ, List, [], ◌∷◌, ◌++◌, ◌+◌, ◌<◌, ◌≤◌, ap, sym, refl, subst, arith, length, take, get_or}
use Rattle.std.specs.Prelude.{Any}
use Rattle.std.proofs.lemmas.List.{get_or_default, map-append}
use Rattle.std.proofs.lemmas.List.Elements.{All-push, All-weaker}
use Rattle.drm_picture.proofs.Places.{take-more}
use Rattle.drm_picture.specs.declared.bars.Lane.{Lane}
use Rattle.drm_picture.specs.declared.picture.Picture.{Picture}
use Rattle.drm_svg.specs.declared.layout.LaneRows.{LaneRows}
use Rattle.drm_svg.specs.declared.placing.Placed.{Placed}
use Rattle.drm_svg.specs.Layout.{AreLanes, AreStacked, IsLaneRows, bars_of_kind, below_of}
use Rattle.drm_svg.specs.Placing.{ArePlaced}

stacked_more : (top : ℕ) (rows : List LaneRows) (middle : ℕ) (next : LaneRows) → AreStacked top rows middle → next.top ≡ middle → AreStacked top (rows ++ next ∷ []) (below_of next)
stacked_more top [] middle next so at = (at ∙ sym so, refl)
stacked_more top (row ∷ rows) middle next so at = (so.0, stacked_more (below_of row) rows middle next so.1 at)

-- one lane more
pub lane_more : (picture : Picture) (lanes : List Lane) (lane : Lane) (rows : List LaneRows) (next : LaneRows) (middle : ℕ) → AreLanes picture lanes rows middle
    → next.lane ≡ lane → next.top ≡ middle → IsLaneRows picture next → AreLanes picture (lanes ++ lane ∷ []) (rows ++ next ∷ []) (below_of next)
lane_more picture lanes lane rows next middle so named at each = record {
  named = map-append (λ (r : LaneRows). r.lane) rows (next ∷ []) ∙ ap (λ l. l ++ next.lane ∷ []) so.named ∙ ap (λ (l : Lane). lanes ++ l ∷ []) named;
  stacked = stacked_more 0 rows middle next so.stacked at;
  each = All-push (IsLaneRows picture) rows next so.each each;
}

-- the rows of a lane whose bars are all placed
pub lane_of_placed : (picture : Picture) (rows : LaneRows) (first : ℕ) (es : List ℕ) → first ≡ rows.top + 1 → rows.bottom ≡ length es
    → ArePlaced picture rows.lane first (bars_of_kind picture rows.lane) rows.bars es → IsLaneRows picture rows
lane_of_placed picture rows first es begins ends placed =
    let needed : (row : ℕ) → first ≤ row → row < length es → Any (λ (p : Placed). p.row ≡ row) rows.bars =
    λ row from below.
    let reached = placed.rowed.reached row from below in
    (reached.0, reached.1, reached.2, reached.3, reached.4.0) in
    record {
      drawn = placed.drawn;
      cut = placed.cut;
      apart = placed.rowed.apart;
      first_free = λ k d within row from below. placed.rowed.above k d within row (omega (arith, begins, from)) below;
      within = All-weaker (λ (p : Placed). (first ≤ p.row) × (p.row < length es)) (λ (p : Placed). (rows.top < p.row) × (p.row < rows.bottom))
          (λ p h. (omega (arith, begins, h.0), omega (arith, ends, h.1))) rows.bars placed.rowed.within;
      needed = λ row from below. needed row (omega (arith, begins, from)) (omega (arith, ends, below));
    }

-- the next lane of a list
pub next_lane : (picture : Picture) (lanes : List Lane) (k : ℕ) (d : Lane) (rows rows' : List LaneRows) (next : LaneRows) (m n : ℕ) → k < length lanes
    → AreLanes picture (take k lanes) rows m → next.lane ≡ get_or lanes k d → next.top ≡ m → below_of next ≡ n → IsLaneRows picture next → rows' ≡ rows ++ next ∷ []
    → AreLanes picture (take (k + 1) lanes) rows' n
next_lane picture lanes k d rows rows' next m n within so named at ends each put =
    let lane = get_or lanes k d in
    let more : AreLanes picture (take k lanes ++ lane ∷ []) (rows ++ next ∷ []) (below_of next) = lane_more picture (take k lanes) lane rows next m so named at each in
    subst (λ (l : List Lane). AreLanes picture l rows' n) (sym (take-more lanes k lane within (get_or_default lanes k d lane within)))
    (subst (λ (r : List LaneRows). AreLanes picture (take k lanes ++ lane ∷ []) r n) (sym put)
    (subst (λ (b : ℕ). AreLanes picture (take k lanes ++ lane ∷ []) (rows ++ next ∷ []) b) ends more))
