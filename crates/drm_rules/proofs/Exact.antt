-- What is told as broken is what is broken, and nothing is told exactly where all is kept.
use Rattle.std.proofs.Common.{◌≡◌, ℕ, zero, suc, ◌<◌, ◌⊎◌, inl, inr, Bool, true, false, List, [], ◌∷◌, ◌++◌, append-nil, append_assoc, Some, refl, sym, ap, subst, ◌∙◌, take, arith, slice_get}
use Rattle.std.specs.Prelude.{Contains, not, is_none, ◌||◌}
use Rattle.std.specs.List.{All}
use Rattle.std.proofs.lemmas.List.Elements.{All-append, All-cons, All-head, All-nil, All-same, Contains-append_cases, Contains-append_left, Contains-append_right}
use Rattle.drm_trace.specs.declared.event.Event.{Event}
use Rattle.drm_trace.specs.declared.event.What.{What}
use Rattle.drm_trace.specs.declared.event.What.TheVariants as does
use Rattle.drm_rules.specs.declared.rules.Broken.{Broken}
use Rattle.drm_rules.specs.declared.rules.Demands.{Demands}
use Rattle.drm_rules.specs.Conforms.{BreaksFirst, Conforms, IsBroken, Keeps}
use Rattle.drm_rules.specs.Rules.{broken, broken_at, broken_by, broken_from, unless}

-- ---- lists of which nothing is told

nothing_before : {X : Type 0} (xs ys : List X) → xs ++ ys ≡ [] → (xs ≡ []) × (ys ≡ [])
nothing_before [] ys e = (refl, e)
nothing_before (x ∷ xs) ys e = absurd (cc (e))

nothing_told : (keeps : Bool) (one : Broken) → unless keeps one ≡ [] → keeps ≡ true
nothing_told true one e = refl
nothing_told false one e = absurd (cc (e))

keeps_told : (keeps : Bool) (one : Broken) → keeps ≡ true → unless keeps one ≡ []
keeps_told true one is = refl
keeps_told false one is = absurd (cc (is))

both_nothing : {X : Type 0} (xs ys : List X) → xs ≡ [] → ys ≡ [] → xs ++ ys ≡ []
both_nothing xs ys none no_more = rw (none, no_more) refl

module _ (demands : Demands) (log : List Event) where
  -- one of the lines that are left breaks the rule
  BreaksLater : List Event → List Event → Broken → Type 0
  BreaksLater seen rest one = (place : ℕ) × (e : Event) × (slice_get rest place ≡ Some e) × Contains (broken_at demands log (seen ++ take place rest) e) one

  pub told : (seen rest : List Event) (one : Broken) → Contains (broken_from demands log seen rest) one
      → (place : ℕ) × (e : Event) × (slice_get rest place ≡ Some e) × Contains (broken_at demands log (seen ++ take place rest) e) one
  told seen [] one has = absurd (omega (arith, has.1))
  told seen (e ∷ rest) one has = elim (Contains-append_cases (broken_at demands log seen e) (broken_from demands log (seen ++ e ∷ []) rest) one has) [
    | inl here ↦ (zero, e, refl, subst (λ s. Contains (broken_at demands log s e) one) (sym (append-nil seen)) here)
    | inr later ↦
        let (place, f, at, breaks) = told (seen ++ e ∷ []) rest one later in
        (suc place, f, at, subst (λ s. Contains (broken_at demands log s f) one) (append_assoc seen (e ∷ []) (take place rest)) breaks)
  ]

  pub breaks_told : (seen rest : List Event) (one : Broken) (place : ℕ) (e : Event) → slice_get rest place ≡ Some e
      → Contains (broken_at demands log (seen ++ take place rest) e) one → Contains (broken_from demands log seen rest) one
  breaks_told seen [] one place e at breaks = absurd (cc (at))
  breaks_told seen (first ∷ rest) one zero e at breaks =
      let same : first ≡ e = cc (at) in
      let here : Contains (broken_at demands log seen first) one =
      subst (λ s. Contains (broken_at demands log s first) one) (append-nil seen) (subst (λ f. Contains (broken_at demands log (seen ++ []) f) one) (sym same) breaks) in
      Contains-append_left (broken_at demands log seen first) (broken_from demands log (seen ++ first ∷ []) rest) one here
  breaks_told seen (first ∷ rest) one (suc place) e at breaks =
      let later : Contains (broken_at demands log ((seen ++ first ∷ []) ++ take place rest) e) one =
      subst (λ s. Contains (broken_at demands log s e) one) (sym (append_assoc seen (first ∷ []) (take place rest))) breaks in
      Contains-append_right (broken_at demands log seen first) (broken_from demands log (seen ++ first ∷ []) rest) one
      (breaks_told (seen ++ first ∷ []) rest one place e at later)

  -- a line of which nothing is told keeps its rules
  line_keeps : (seen : List Event) (e : Event) (what : What) → broken_by demands log seen e what ≡ [] → Keeps demands log seen e what
  line_keeps seen e (does.Queued place) none =
      let parts = nothing_before (unless _ _) (unless _ _) none in
      record { once = nothing_told _ _ parts.0; in_order = nothing_told _ _ parts.1 }
  line_keeps seen e (does.Ran place) none =
      let halves = nothing_before ((unless _ _ ++ unless _ _) ++ unless _ _) (unless _ _ ++ unless _ _) none in
      let front = nothing_before (unless _ _ ++ unless _ _) (unless _ _) halves.0 in
      let first = nothing_before (unless _ _) (unless _ _) front.0 in
      let back = nothing_before (unless _ _) (unless _ _) halves.1 in
      record {
        once = nothing_told _ _ first.0;
        queued = nothing_told _ _ first.1;
        in_order = nothing_told _ _ front.1;
        ready = nothing_told _ _ back.0;
        room = nothing_told _ _ back.1;
      }
  line_keeps seen e (does.Waits on) none = tt
  line_keeps seen e does.Ended none =
      let front = nothing_before (unless _ _ ++ unless _ _) (unless _ _) none in
      let first = nothing_before (unless _ _) (unless _ _) front.0 in
      record { once = nothing_told _ _ first.0; ran = nothing_told _ _ first.1; in_order = nothing_told _ _ front.1 }

  -- of a line that keeps its rules nothing is told
  kept_untold : (seen : List Event) (e : Event) (what : What) → Keeps demands log seen e what → broken_by demands log seen e what ≡ []
  kept_untold seen e (does.Queued place) keeps = both_nothing _ _ (keeps_told _ _ keeps.once) (keeps_told _ _ keeps.in_order)
  kept_untold seen e (does.Ran place) keeps =
      both_nothing _ _
      (both_nothing _ _ (both_nothing _ _ (keeps_told _ _ keeps.once) (keeps_told _ _ keeps.queued)) (keeps_told _ _ keeps.in_order))
      (both_nothing _ _ (keeps_told _ _ keeps.ready) (keeps_told _ _ keeps.room))
  kept_untold seen e (does.Waits on) keeps = refl
  kept_untold seen e does.Ended keeps =
      both_nothing _ _ (both_nothing _ _ (keeps_told _ _ keeps.once) (keeps_told _ _ keeps.ran)) (keeps_told _ _ keeps.in_order)

  pub all_keep : (seen rest : List Event) → broken_from demands log seen rest ≡ [] → (place : ℕ) (e : Event) → slice_get rest place ≡ Some e
      → Keeps demands log (seen ++ take place rest) e e.what
  all_keep seen [] none place e at = absurd (cc (at))
  all_keep seen (first ∷ rest) none zero e at =
      let parts = nothing_before (broken_at demands log seen first) (broken_from demands log (seen ++ first ∷ []) rest) none in
      let same : first ≡ e = cc (at) in
      let here : Keeps demands log seen first first.what = line_keeps seen first first.what parts.0 in
      subst (λ f. Keeps demands log (seen ++ []) f f.what) same (subst (λ s. Keeps demands log s first first.what) (sym (append-nil seen)) here)
  all_keep seen (first ∷ rest) none (suc place) e at =
      let parts = nothing_before (broken_at demands log seen first) (broken_from demands log (seen ++ first ∷ []) rest) none in
      subst (λ s. Keeps demands log s e e.what) (append_assoc seen (first ∷ []) (take place rest)) (all_keep (seen ++ first ∷ []) rest parts.1 place e at)

  pub none_told : (seen rest : List Event) → ((place : ℕ) (e : Event) → slice_get rest place ≡ Some e → Keeps demands log (seen ++ take place rest) e e.what)
      → broken_from demands log seen rest ≡ []
  none_told seen [] keep = refl
  none_told seen (first ∷ rest) keep =
      let here : Keeps demands log seen first first.what = subst (λ s. Keeps demands log s first first.what) (append-nil seen) (keep zero first refl) in
      let later : (place : ℕ) (e : Event) → slice_get rest place ≡ Some e → Keeps demands log ((seen ++ first ∷ []) ++ take place rest) e e.what = λ place e at.
      subst (λ s. Keeps demands log s e e.what) (sym (append_assoc seen (first ∷ []) (take place rest))) (keep (suc place) e at) in
      both_nothing _ _ (kept_untold seen first first.what here) (none_told (seen ++ first ∷ []) rest later)

  -- ---- the first that is told

  unless_at : (keeps : Bool) (one : Broken) (e : Event) → one.at ≡ e → All (λ b. b.at ≡ e) (unless keeps one)
  unless_at true one e is = All-nil (λ b. b.at ≡ e)
  unless_at false one e is = All-cons (λ b. b.at ≡ e) one [] is (All-nil (λ b. b.at ≡ e))

  -- what is told of a line names that line
  told_at : (seen : List Event) (e : Event) (what : What) → All (λ b. b.at ≡ e) (broken_by demands log seen e what)
  told_at seen e (does.Queued place) = All-append (λ b. b.at ≡ e) (unless _ _) (unless _ _) (unless_at _ _ e refl) (unless_at _ _ e refl)
  told_at seen e (does.Ran place) =
      All-append (λ b. b.at ≡ e) ((unless _ _ ++ unless _ _) ++ unless _ _) (unless _ _ ++ unless _ _)
      (All-append (λ b. b.at ≡ e) (unless _ _ ++ unless _ _) (unless _ _) (All-append (λ b. b.at ≡ e) (unless _ _) (unless _ _) (unless_at _ _ e refl) (unless_at _ _ e refl)) (unless_at _ _ e refl))
      (All-append (λ b. b.at ≡ e) (unless _ _) (unless _ _) (unless_at _ _ e refl) (unless_at _ _ e refl))
  told_at seen e (does.Waits on) = All-nil (λ b. b.at ≡ e)
  told_at seen e does.Ended =
      All-append (λ b. b.at ≡ e) (unless _ _ ++ unless _ _) (unless _ _) (All-append (λ b. b.at ≡ e) (unless _ _) (unless _ _) (unless_at _ _ e refl) (unless_at _ _ e refl)) (unless_at _ _ e refl)

  -- the lines up to one keep their rules, where the first does and those behind it do
  keeps_more : (seen rest : List Event) (first : Event) (place : ℕ) → broken_at demands log seen first ≡ []
      → ((earlier : ℕ) (e : Event) → earlier < place → slice_get rest earlier ≡ Some e → Keeps demands log ((seen ++ first ∷ []) ++ take earlier rest) e e.what)
      → (earlier : ℕ) (e : Event) → earlier < suc place → slice_get (first ∷ rest) earlier ≡ Some e → Keeps demands log (seen ++ take earlier (first ∷ rest)) e e.what
  keeps_more seen rest first place none before zero e lt at =
      let same : first ≡ e = cc (at) in
      let here : Keeps demands log seen first first.what = line_keeps seen first first.what none in
      subst (λ f. Keeps demands log (seen ++ []) f f.what) same (subst (λ s. Keeps demands log s first first.what) (sym (append-nil seen)) here)
  keeps_more seen rest first place none before (suc earlier) e lt at =
      subst (λ s. Keeps demands log s e e.what) (append_assoc seen (first ∷ []) (take earlier rest)) (before earlier e (omega (arith, lt)) at)

  -- the first that is told breaks a rule, and the lines before it keep all
  LeastIn : List Event → List Event → Broken → Type 0
  LeastIn seen rest one =
      (place : ℕ) × (slice_get rest place ≡ Some one.at) × Contains (broken_at demands log (seen ++ take place rest) one.at) one
      × ((earlier : ℕ) (e : Event) → earlier < place → slice_get rest earlier ≡ Some e → Keeps demands log (seen ++ take earlier rest) e e.what)

  -- it is of this line
  least_here : (seen rest : List Event) (first : Event) (one : Broken) (told : List Broken) → broken_at demands log seen first ≡ one ∷ told → LeastIn seen (first ∷ rest) one
  unfolding LeastIn
  least_here seen rest first one told is =
      let at : one.at ≡ first = All-head (λ b. b.at ≡ first) one told (All-same (λ b. b.at ≡ first) (one ∷ told) (broken_at demands log seen first) (sym is) (told_at seen first first.what)) in
      let has : Contains (broken_at demands log seen first) one = subst (λ bs. Contains bs one) (sym is) (zero, omega arith, refl) in (
        zero,
        ap (λ (e : Event). Some e) (sym at),
        subst (λ e. Contains (broken_at demands log (seen ++ []) e) one) (sym at) (subst (λ s. Contains (broken_at demands log s first) one) (sym (append-nil seen)) has),
        λ earlier e lt. absurd (omega (arith, lt)),
      )

  -- or of one behind it
  least_later : (seen rest : List Event) (first : Event) (one : Broken) → broken_at demands log seen first ≡ [] → LeastIn (seen ++ first ∷ []) rest one → LeastIn seen (first ∷ rest) one
  unfolding LeastIn
  least_later seen rest first one none later =
      let (place, at, breaks, before) = later in
      (suc place, at, subst (λ s. Contains (broken_at demands log s one.at) one) (append_assoc seen (first ∷ []) (take place rest)) breaks, keeps_more seen rest first place none before)

  least_of : (seen rest : List Event) (first : Event) (one : Broken) (more told : List Broken) → broken_at demands log seen first ≡ told
      → told ++ broken_from demands log (seen ++ first ∷ []) rest ≡ one ∷ more
      → (broken_from demands log (seen ++ first ∷ []) rest ≡ one ∷ more → LeastIn (seen ++ first ∷ []) rest one) → LeastIn seen (first ∷ rest) one
  least_of seen rest first one more [] none is later = least_later seen rest first one none (later is)
  least_of seen rest first one more (x ∷ xs) some is later =
      let same : x ≡ one = cc (is) in
      least_here seen rest first one xs (some ∙ ap (λ (b : Broken). b ∷ xs) same)

  least : (seen rest : List Event) (one : Broken) (more : List Broken) → broken_from demands log seen rest ≡ one ∷ more → LeastIn seen rest one
  least seen [] one more is = absurd (cc (is))
  least seen (first ∷ rest) one more is = least_of seen rest first one more (broken_at demands log seen first) refl is (λ so. least (seen ++ first ∷ []) rest one more so)

  pub breaks_first : (one : Broken) (more : List Broken) → broken demands log ≡ one ∷ more → BreaksFirst demands log one
  unfolding LeastIn
  breaks_first one more is = let (place, at, breaks, before) = least [] log one more is in record { place = place; line = at; breaks = breaks; kept_before = before }
