-- Bars come into the rows of a lane, one after another.
use Rattle.std.proofs.Common.{◌≡◌, ◌∙◌, ℕ, true, false, Bool, List, [], ◌∷◌, ◌++◌, ◌+◌, ◌<◌, ◌≤◌, ap, append-nil, append_assoc, inl, inr, refl, sym, subst, arith, length, map, take, get_or, filter, cond}
use Rattle.std.specs.Prelude.{All, AllPairs, Any}
use Rattle.std.proofs.lemmas.Bool.{cases_eq}
use Rattle.std.proofs.lemmas.List.{get_or_append_left, get_or_default, length-append, map-append}
use Rattle.std.proofs.lemmas.List.Elements.{All-nil, All-push, All-weaker, filter-append}
use Rattle.std.proofs.lemmas.List.Quantifiers.{Any-push, all_pairs_push}
use Rattle.drm_picture.proofs.Places.{take-more}
use Rattle.drm_picture.specs.declared.bars.Bar.{Bar}
use Rattle.drm_picture.specs.declared.bars.Lane.{Lane}
use Rattle.drm_picture.specs.declared.picture.Picture.{Picture}
use Rattle.drm_svg.specs.declared.placing.Placed.{Placed}
use Rattle.drm_svg.specs.Layout.{AreApart, IsTaken, end_of, is_in, left_of, placed_at, width_of}
use Rattle.drm_svg.specs.Placing.{ArePlaced, AreRowed, PlacesAt, PlacesIn}
use Rattle.drm_svg.proofs.Places.{each_more}

-- what holds of some element holds of some of more
Any-more : {X : Type 0} (P : X → Type 0) (xs ys : List X) → Any P xs → Any P (xs ++ ys)
Any-more P xs ys (k, x, within, found, holds) =
    (k, x, omega (arith, length-append xs ys), get_or_append_left xs ys x k within ∙ found, holds)

Any-weaker : {X : Type 0} (P Q : X → Type 0) → ((x : X) → P x → Q x) → (xs : List X) → Any P xs → Any Q xs
Any-weaker P Q weaker xs (k, x, within, found, holds) = (k, x, within, found, weaker x holds)

-- the bars of the row that was free end where the new one begins, or before
ended : (picture : Picture) (first row : ℕ) (bar : Bar) (es es' : List ℕ) (ps ps' : List Placed) → AreRowed first ps es → PlacesAt picture first row bar es es' ps ps'
    → (k : ℕ) (d : Placed) → k < length ps → (get_or ps k d).row ≡ row → end_of (get_or ps k d) ≤ left_of picture bar
ended picture first row bar es es' ps ps' old put k d within same =
    let inside = old.within k d within in
    let there : row < length es = omega (arith, same, inside.1) in
    let e = old.last row put.behind there k d within same in
    omega (arith, e, put.free there)

apart_more : (picture : Picture) (first row : ℕ) (bar : Bar) (es es' : List ℕ) (ps ps' : List Placed) → AreRowed first ps es → PlacesAt picture first row bar es es' ps ps'
    → AllPairs AreApart (ps ++ placed_at picture row bar ∷ [])
apart_more picture first row bar es es' ps ps' old put =
    all_pairs_push AreApart ps (placed_at picture row bar) old.apart (λ k d within same. ended picture first row bar es es' ps ps' old put k d within same)

above_new : (picture : Picture) (first row : ℕ) (bar : Bar) (es es' : List ℕ) (ps ps' : List Placed) → AreRowed first ps es → PlacesAt picture first row bar es es' ps ps'
    → (r : ℕ) → first ≤ r → r < row → IsTaken r (left_of picture bar) ps
above_new picture first row bar es es' ps ps' old put r from below =
    let there : r < length es = omega (arith, put.within) in
    let left = put.taken r from below in
    Any-weaker (λ (p : Placed). (p.row ≡ r) × (end_of p ≡ get_or es r 0)) (λ (p : Placed). (p.row ≡ r) × (left_of picture bar < end_of p))
    (λ p h. (h.0, omega (arith, h.1, left))) ps (old.reached r from there)

within_more : (picture : Picture) (first row : ℕ) (bar : Bar) (es es' : List ℕ) (ps ps' : List Placed) → AreRowed first ps es → PlacesAt picture first row bar es es' ps ps'
    → All (λ (p : Placed). (first ≤ p.row) × (p.row < length es')) (ps ++ placed_at picture row bar ∷ [])
within_more picture first row bar es es' ps ps' old put =
    let longer = put.takes.longer in
    All-push (λ (p : Placed). (first ≤ p.row) × (p.row < length es')) ps (placed_at picture row bar)
    (All-weaker (λ (p : Placed). (first ≤ p.row) × (p.row < length es)) (λ (p : Placed). (first ≤ p.row) × (p.row < length es'))
    (λ p h. (h.0, omega (arith, h.1, longer))) ps old.within)
    (put.behind, put.takes.there)

last_more : (picture : Picture) (first row : ℕ) (bar : Bar) (es es' : List ℕ) (ps ps' : List Placed) → AreRowed first ps es → PlacesAt picture first row bar es es' ps ps'
    → (r : ℕ) → first ≤ r → r < length es' → All (λ (p : Placed). p.row ≡ r → end_of p ≤ get_or es' r 0) (ps ++ placed_at picture row bar ∷ [])
last_more picture first row bar es es' ps ps' old put r from there =
    All-push (λ (p : Placed). p.row ≡ r → end_of p ≤ get_or es' r 0) ps (placed_at picture row bar)
    (elim (cases_eq r row) [
      | inl same ↦ λ k d within at.
          let e = ended picture first row bar es es' ps ps' old put k d within (at ∙ same) in
          let now : get_or es' r 0 ≡ left_of picture bar + width_of picture bar = ap (λ (n : ℕ). get_or es' n 0) same ∙ put.takes.ends in
          omega (arith, e, now)
      | inr other ↦ λ k d within at.
          let kept = put.takes.others r there other in
          let e = old.last r from kept.0 k d within at in
          omega (arith, e, kept.1)
    ])
    (λ at.
    let now : get_or es' r 0 ≡ left_of picture bar + width_of picture bar = ap (λ (n : ℕ). get_or es' n 0) (sym at) ∙ put.takes.ends in
    omega (arith, now))

reached_more : (picture : Picture) (first row : ℕ) (bar : Bar) (es es' : List ℕ) (ps ps' : List Placed) → AreRowed first ps es → PlacesAt picture first row bar es es' ps ps'
    → (r : ℕ) → first ≤ r → r < length es' → Any (λ (p : Placed). (p.row ≡ r) × (end_of p ≡ get_or es' r 0)) (ps ++ placed_at picture row bar ∷ [])
reached_more picture first row bar es es' ps ps' old put r from there =
    elim (cases_eq r row) [
      | inl same ↦
          let now : get_or es' r 0 ≡ left_of picture bar + width_of picture bar = ap (λ (n : ℕ). get_or es' n 0) same ∙ put.takes.ends in
          Any-push (λ (p : Placed). (p.row ≡ r) × (end_of p ≡ get_or es' r 0)) ps (placed_at picture row bar) (sym same, sym now)
      | inr other ↦
          let kept = put.takes.others r there other in
          Any-more (λ (p : Placed). (p.row ≡ r) × (end_of p ≡ get_or es' r 0)) ps (placed_at picture row bar ∷ [])
          (Any-weaker (λ (p : Placed). (p.row ≡ r) × (end_of p ≡ get_or es r 0)) (λ (p : Placed). (p.row ≡ r) × (end_of p ≡ get_or es' r 0))
          (λ p h. (h.0, h.1 ∙ sym kept.1)) ps (old.reached r from kept.0))
    ]

rowed_more : (picture : Picture) (first row : ℕ) (bar : Bar) (es es' : List ℕ) (ps ps' : List Placed) → AreRowed first ps es → PlacesAt picture first row bar es es' ps ps'
    → AreRowed first (ps ++ placed_at picture row bar ∷ []) es'
rowed_more picture first row bar es es' ps ps' old put = record {
  apart = apart_more picture first row bar es es' ps ps' old put;
  above = each_more (λ (before : List Placed) (p : Placed). (r : ℕ) → first ≤ r → r < p.row → IsTaken r p.left before) ps (placed_at picture row bar)
      old.above (above_new picture first row bar es es' ps ps' old put);
  behind = omega (arith, old.behind, put.takes.longer);
  within = within_more picture first row bar es es' ps ps' old put;
  last = last_more picture first row bar es es' ps ps' old put;
  reached = reached_more picture first row bar es es' ps ps' old put;
}

-- a bar of the lane comes into its row
put_in : (picture : Picture) (lane : Lane) (first : ℕ) (bar : Bar) (bs : List Bar) (es es' : List ℕ) (ps ps' : List Placed) → ArePlaced picture lane first bs ps es
    → is_in lane bar ≡ true → (row : ℕ) → PlacesAt picture first row bar es es' ps ps' → ArePlaced picture lane first (bs ++ bar ∷ []) ps' es'
put_in picture lane first bar bs es es' ps ps' old passes row put =
    let p = placed_at picture row bar in
    let drawn : map (λ (q : Placed). q.bar) (ps ++ p ∷ []) ≡ filter (is_in lane) (bs ++ bar ∷ []) =
    map-append (λ (q : Placed). q.bar) ps (p ∷ [])
    ∙ ap (λ l. l ++ bar ∷ []) old.drawn
    ∙ sym (filter-append (is_in lane) bs (bar ∷ []) ∙ ap (λ (b : Bool). filter (is_in lane) bs ++ cond b (bar ∷ []) []) passes) in
    let cut : All (λ (q : Placed). q ≡ placed_at picture q.row q.bar) (ps ++ p ∷ []) =
    All-push (λ (q : Placed). q ≡ placed_at picture q.row q.bar) ps p old.cut refl in
    subst (λ (l : List Placed). ArePlaced picture lane first (bs ++ bar ∷ []) l es') (sym put.put)
    (record { drawn = drawn; cut = cut; rowed = rowed_more picture first row bar es es' ps ps' old.rowed put })

-- a bar of another lane is left out
left_out : (picture : Picture) (lane : Lane) (first : ℕ) (bar : Bar) (bs : List Bar) (es es' : List ℕ) (ps ps' : List Placed) → ArePlaced picture lane first bs ps es
    → is_in lane bar ≡ false → (es' ≡ es) × (ps' ≡ ps) → ArePlaced picture lane first (bs ++ bar ∷ []) ps' es'
left_out picture lane first bar bs es es' ps ps' old fails same =
    let drawn : map (λ (q : Placed). q.bar) ps ≡ filter (is_in lane) (bs ++ bar ∷ []) =
    old.drawn
    ∙ sym (filter-append (is_in lane) bs (bar ∷ []) ∙ ap (λ (b : Bool). filter (is_in lane) bs ++ cond b (bar ∷ []) []) fails ∙ append-nil (filter (is_in lane) bs)) in
    subst (λ (l : List ℕ). ArePlaced picture lane first (bs ++ bar ∷ []) ps' l) (sym same.0)
    (subst (λ (l : List Placed). ArePlaced picture lane first (bs ++ bar ∷ []) l es) (sym same.1)
    (record { drawn = drawn; cut = old.cut; rowed = old.rowed }))

one_more : (picture : Picture) (lane : Lane) (first : ℕ) (bar : Bar) (bs : List Bar) (es es' : List ℕ) (ps ps' : List Placed) → ArePlaced picture lane first bs ps es
    → PlacesIn picture lane first bar es es' ps ps' → (b : Bool) → is_in lane bar ≡ b → ArePlaced picture lane first (bs ++ bar ∷ []) ps' es'
one_more picture lane first bar bs es es' ps ps' old says true passes =
    let put = says.inside passes in put_in picture lane first bar bs es es' ps ps' old passes put.0 put.1
one_more picture lane first bar bs es es' ps ps' old says false fails = left_out picture lane first bar bs es es' ps ps' old fails (says.outside fails)

-- the next bar of a list, behind others
pub next_placed : (picture : Picture) (lane : Lane) (first : ℕ) (before bars : List Bar) (k : ℕ) (d : Bar) (es es' : List ℕ) (ps ps' : List Placed) → k < length bars
    → ArePlaced picture lane first (before ++ take k bars) ps es → PlacesIn picture lane first (get_or bars k d) es es' ps ps'
    → ArePlaced picture lane first (before ++ take (k + 1) bars) ps' es'
next_placed picture lane first before bars k d es es' ps ps' within old says =
    let bar = get_or bars k d in
    let more : before ++ take (k + 1) bars ≡ (before ++ take k bars) ++ bar ∷ [] =
    ap (λ l. before ++ l) (take-more bars k bar within (get_or_default bars k d bar within)) ∙ sym (append_assoc before (take k bars) (bar ∷ [])) in
    subst (λ (l : List Bar). ArePlaced picture lane first l ps' es') (sym more)
    (one_more picture lane first bar (before ++ take k bars) es es' ps ps' old says (is_in lane bar) refl)

-- no bar yet
pub none_placed : (picture : Picture) (lane : Lane) (first : ℕ) (ps : List Placed) (es : List ℕ) → first ≡ length es → ps ≡ [] → ArePlaced picture lane first [] ps es
none_placed picture lane first ps es at none =
    subst (λ (l : List Placed). ArePlaced picture lane first [] l es) (sym none)
    (record {
      drawn = refl;
      cut = All-nil (λ (q : Placed). q ≡ placed_at picture q.row q.bar);
      rowed = record {
        apart = λ i j d lt within. absurd (omega (arith, lt, within));
        above = λ k d within r from below. absurd (omega (arith, within));
        behind = omega (arith, at);
        within = All-nil (λ (p : Placed). (first ≤ p.row) × (p.row < length es));
        last = λ r from there. absurd (omega (arith, at, from, there));
        reached = λ r from there. absurd (omega (arith, at, from, there));
      };
    })
