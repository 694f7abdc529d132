-- What one changed entity shows, and that the queues stay linked.
use Rattle.std.proofs.Common.{◌≡◌, ◌≢◌, ℕ, zero, suc, ◌+◌, ◌-◌, ◌<◌, ◌≤◌, get_or, List, [], ◌∷◌, ◌++◌, map, set, length, Some, refl, sym, ap, subst, ◌∙◌, inl, inr, ◌⊎◌, arith, slice_get}
use Rattle.std.specs.Prelude.{option_map}
use Rattle.std.specs.Option.{option_map_or}
use Rattle.std.proofs.lemmas.Bool.{cases_eq}
use Rattle.std.proofs.lemmas.Option.{slice_get-map}
use Rattle.drm_lists.proofs.Changed.{get_set_is, get_set_other}
use Rattle.drm_entity.specs.declared.entities.Links.{Links}
use Rattle.drm_entity.specs.Rows.{EntityRow, EntityRows, row_changed}
use Rattle.drm_entity.specs.Linked.{walk, queue_of, row_of, StandsAt, IsLinked}
use Rattle.drm_entity.proofs.Walks.{length_walk, get_push, get_pushed, link_set, walk_kept, walk_alike, walk_more}

rows_same : (next new : List ℕ) (links : List Links) → ((f : ℕ) (m : Links) → slice_get links f ≡ Some m → row_of new m ≡ row_of next m)
    → map (row_of new) links ≡ map (row_of next) links
rows_same next new [] same = refl
rows_same next new (x ∷ links) same =
    ap (λ r. r ∷ map (row_of new) links) (same zero x refl) ∙ ap (λ l. row_of next x ∷ l) (rows_same next new links (λ f m at. same (suc f) m at))

rows_set : (next new : List ℕ) (links : List Links) (e : ℕ) (l l' : Links) → slice_get links e ≡ Some l
    → ((f : ℕ) (m : Links) → f ≢ e → slice_get links f ≡ Some m → row_of new m ≡ row_of next m)
    → map (row_of new) (set links e l') ≡ set (map (row_of next) links) e (row_of new l')
rows_set next new [] e l l' at others = absurd (cc (at))
rows_set next new (x ∷ links) zero l l' at others =
    ap (λ rows. row_of new l' ∷ rows) (rows_same next new links (λ f m at_f. others (suc f) m (λ same. absurd (omega (arith, same))) at_f))
rows_set next new (x ∷ links) (suc e) l l' at others =
    ap (λ r. r ∷ map (row_of new) (set links e l')) (others zero x (λ same. absurd (omega (arith, same))) refl)
    ∙ ap (λ rows. row_of next x ∷ rows) (rows_set next new links e l l' at (λ f m away at_f. others (suc f) m (λ same. away (omega (arith, same))) at_f))

-- what one changed entity shows
pub changed_is : (places : ℕ) (next new : List ℕ) (links : List Links) (now : EntityRows) (e : ℕ) (l l' : Links) (change : EntityRow → EntityRow)
    → ◌≡◌ {A = EntityRows} (record { places = places; rows = map (row_of next) links }) now → slice_get links e ≡ Some l
    → ((f : ℕ) (m : Links) → f ≢ e → slice_get links f ≡ Some m → row_of new m ≡ row_of next m) → row_of new l' ≡ change (row_of next l)
    → ◌≡◌ {A = EntityRows} (record { places = places; rows = map (row_of new) (set links e l') }) (row_changed now e change)
changed_is places next new links now e l l' change view at others is =
    let there : slice_get (map (row_of next) links) e ≡ Some (row_of next l) = slice_get-map (row_of next) links e ∙ ap (option_map (row_of next)) at in
    ap (λ rows. record { places = places; rows = rows }) (rows_set next new links e l l' at others ∙ ap (set (map (row_of next) links) e) is)
    ∙ (sym (ap (λ o. record { places = places; rows = option_map_or (λ r. set (map (row_of next) links) e (change r)) o (map (row_of next) links) }) there)
    ∙ ap (λ v. row_changed v e change) view)

-- links that lead to the same, with others behind them, show the same
pub alike_shown : (places room : ℕ) (next new : List ℕ) (links : List Links) (now : EntityRows) → ◌≡◌ {A = EntityRows} (record { places = places; rows = map (row_of next) links }) now
    → ((k : ℕ) → get_or new k 0 ≡ get_or next k 0) → room ≡ places → ◌≡◌ {A = EntityRows} (record { places = room; rows = map (row_of new) links }) now
alike_shown places room next new links now view alike same =
    ap (λ n. record { places = n; rows = map (row_of new) links }) same
    ∙ ap (λ rows. record { places = places; rows = rows })
    (rows_same next new links (λ f m at.
    ap (λ (q : List ℕ). record { queue = q; is_stopped = m.is_stopped; is_guilty = m.is_guilty }) (walk_alike next new m.first m.len alike)))
    ∙ view

pub alike_linked : (next new : List ℕ) (links : List Links) → IsLinked next links → ((k : ℕ) → get_or new k 0 ≡ get_or next k 0) → length next ≤ length new → IsLinked new links
alike_linked next new links is alike longer = record {
  last = λ e l before at len. subst (λ (q : List ℕ). slice_get q before ≡ Some l.last) (sym (walk_alike next new l.first l.len alike)) (is.last e l before at len);
  within = λ e place n s. omega (arith, longer, is.within e place n (was e place n s));
  apart = λ i j a b n x y. is.apart i j a b n (was i a n x) (was j b n y);
}
  where
    was : (e place n : ℕ) → StandsAt new links e place n → StandsAt next links e place n
    was e place n s = record {
      link = s.link;
      is_link = s.is_link;
      at = subst (λ (q : List ℕ). slice_get q place ≡ Some n) (walk_alike next new s.link.first s.link.len alike) s.at;
    }

-- one number more at the end of one queue
pub linked_pushed : (next new : List ℕ) (links : List Links) (e number : ℕ) (l l' : Links) → IsLinked next links → slice_get links e ≡ Some l
    → length new ≡ length next → number < length next → ((i a : ℕ) → StandsAt next links i a number → ⊥)
    → queue_of new l' ≡ queue_of next l ++ number ∷ [] → l'.last ≡ number → l'.len ≡ suc l.len
    → ((f : ℕ) (m : Links) → f ≢ e → slice_get links f ≡ Some m → queue_of new m ≡ queue_of next m) → IsLinked new (set links e l')
linked_pushed next new links e number l l' is at places fits fresh queue last_is len_is others = record {
  last = λ entity m before at_m len. ends entity m before at_m len;
  within = λ i a n stands. elim (was i a n stands) [
    | inl old ↦ omega (arith, places, is.within i a n old)
    | inr added ↦ omega (arith, places, fits, added.2)
  ];
  apart = λ i j a b n x y. both i j a b n (was i a n x) (was j b n y);
}
  where
    was : (i a n : ℕ) → StandsAt new (set links e l') i a n → (StandsAt next links i a n) ⊎ ((i ≡ e) × (a ≡ length (queue_of next l)) × (n ≡ number))
    was i a n s =
        elim (cases_eq i e) [
          | inl same ↦
              let link : s.link ≡ l' = get_set_is links e l l' s.link at (subst (λ k. slice_get (set links e l') k ≡ Some s.link) same s.is_link) in
              let stands : slice_get (queue_of next l ++ number ∷ []) a ≡ Some n = subst (λ (q : List ℕ). slice_get q a ≡ Some n) queue
              (subst (λ (m : Links). slice_get (queue_of new m) a ≡ Some n) link s.at) in
              elim (get_push (queue_of next l) number a n stands) [
                | inl old ↦ inl (record { link = l; is_link = subst (λ k. slice_get links k ≡ Some l) (sym same) at; at = old })
                | inr added ↦ inr (same, added.0, added.1)
              ]
          | inr away ↦
              let there : slice_get links i ≡ Some s.link = sym (get_set_other links e i l' away) ∙ s.is_link in
              inl (record { link = s.link; is_link = there; at = subst (λ (q : List ℕ). slice_get q a ≡ Some n) (others i s.link away there) s.at })
        ]

    both : (i j a b n : ℕ) → (StandsAt next links i a n) ⊎ ((i ≡ e) × (a ≡ length (queue_of next l)) × (n ≡ number))
        → (StandsAt next links j b n) ⊎ ((j ≡ e) × (b ≡ length (queue_of next l)) × (n ≡ number)) → (i ≡ j) × (a ≡ b)
    both i j a b n (inl x) (inl y) = is.apart i j a b n x y
    both i j a b n (inl x) (inr y) = absurd (fresh i a (subst (StandsAt next links i a) y.2 x))
    both i j a b n (inr x) (inl y) = absurd (fresh j b (subst (StandsAt next links j b) x.2 y))
    both i j a b n (inr x) (inr y) = (x.0 ∙ sym y.0, x.1 ∙ sym y.1)

    ends : (entity : ℕ) (m : Links) (before : ℕ) → slice_get (set links e l') entity ≡ Some m → m.len ≡ suc before → slice_get (queue_of new m) before ≡ Some m.last
    ends entity m before at_m len =
        elim (cases_eq entity e) [
          | inl same ↦
              let link : m ≡ l' = get_set_is links e l l' m at (subst (λ k. slice_get (set links e l') k ≡ Some m) same at_m) in
              let count : before ≡ length (queue_of next l) = omega (arith, len, ap (λ (z : Links). z.len) link, len_is, length_walk next l.first l.len) in
              let here : slice_get (queue_of next l ++ number ∷ []) before ≡ Some number =
              subst (λ k. slice_get (queue_of next l ++ number ∷ []) k ≡ Some number) (sym count) (get_pushed (queue_of next l) number) in
              subst (λ (z : Links). slice_get (queue_of new z) before ≡ Some z.last) (sym link)
              (subst (λ (q : List ℕ). slice_get q before ≡ Some l'.last) (sym queue) (here ∙ ap Some (sym last_is)))
          | inr away ↦
              let there : slice_get links entity ≡ Some m = sym (get_set_other links e entity l' away) ∙ at_m in
              subst (λ (q : List ℕ). slice_get q before ≡ Some m.last) (sym (others entity m away there)) (is.last entity m before there len)
        ]

-- the first number less
pub linked_popped : (next : List ℕ) (links : List Links) (e number : ℕ) (l l' : Links) → IsLinked next links → slice_get links e ≡ Some l
    → queue_of next l ≡ number ∷ queue_of next l' → l'.last ≡ l.last → l.len ≡ suc l'.len → IsLinked next (set links e l')
linked_popped next links e number l l' is at queue last_is len_is = record {
  last = λ entity m before at_m len. ends entity m before at_m len;
  within = λ i a n stands. elim (was i a n stands) [ inl x ↦ is.within e (suc a) n x.1 | inr x ↦ is.within i a n x.1 ];
  apart = λ i j a b n x y. both i j a b n (was i a n x) (was j b n y);
}
  where
    was : (i a n : ℕ) → StandsAt next (set links e l') i a n → ((i ≡ e) × (StandsAt next links e (suc a) n)) ⊎ ((i ≢ e) × (StandsAt next links i a n))
    was i a n s =
        elim (cases_eq i e) [
          | inl same ↦
              let link : s.link ≡ l' = get_set_is links e l l' s.link at (subst (λ k. slice_get (set links e l') k ≡ Some s.link) same s.is_link) in
              let stands : slice_get (queue_of next l) (suc a) ≡ Some n = subst (λ (q : List ℕ). slice_get q (suc a) ≡ Some n) (sym queue)
              (subst (λ (m : Links). slice_get (queue_of next m) a ≡ Some n) link s.at) in inl (same, record { link = l; is_link = at; at = stands })
          | inr away ↦ inr (away, record { link = s.link; is_link = sym (get_set_other links e i l' away) ∙ s.is_link; at = s.at })
        ]

    both : (i j a b n : ℕ) → ((i ≡ e) × (StandsAt next links e (suc a) n)) ⊎ ((i ≢ e) × (StandsAt next links i a n))
        → ((j ≡ e) × (StandsAt next links e (suc b) n)) ⊎ ((j ≢ e) × (StandsAt next links j b n)) → (i ≡ j) × (a ≡ b)
    both i j a b n (inl x) (inl y) = let one = is.apart e e (suc a) (suc b) n x.1 y.1 in (x.0 ∙ sym y.0, omega (arith, one.1))
    both i j a b n (inl x) (inr y) = let one = is.apart e j (suc a) b n x.1 y.1 in absurd (y.0 (sym one.0))
    both i j a b n (inr x) (inl y) = let one = is.apart i e a (suc b) n x.1 y.1 in absurd (x.0 one.0)
    both i j a b n (inr x) (inr y) = is.apart i j a b n x.1 y.1

    ends : (entity : ℕ) (m : Links) (before : ℕ) → slice_get (set links e l') entity ≡ Some m → m.len ≡ suc before → slice_get (queue_of next m) before ≡ Some m.last
    ends entity m before at_m len =
        elim (cases_eq entity e) [
          | inl same ↦
              let link : m ≡ l' = get_set_is links e l l' m at (subst (λ k. slice_get (set links e l') k ≡ Some m) same at_m) in
              let count : l.len ≡ suc (suc before) = omega (arith, len, ap (λ (z : Links). z.len) link, len_is) in
              let old : slice_get (queue_of next l) (suc before) ≡ Some l.last = is.last e l (suc before) at count in
              let here : slice_get (queue_of next l') before ≡ Some l.last = subst (λ (q : List ℕ). slice_get q (suc before) ≡ Some l.last) queue old in
              subst (λ (z : Links). slice_get (queue_of next z) before ≡ Some z.last) (sym link) (here ∙ ap Some (sym last_is))
          | inr away ↦ is.last entity m before (sym (get_set_other links e entity l' away) ∙ at_m) len
        ]

-- an entity whose queue stays
pub linked_marked : (next : List ℕ) (links : List Links) (e : ℕ) (l l' : Links) → IsLinked next links → slice_get links e ≡ Some l
    → queue_of next l' ≡ queue_of next l → l'.last ≡ l.last → l'.len ≡ l.len → IsLinked next (set links e l')
linked_marked next links e l l' is at queue last_is len_is = record {
  last = λ entity m before at_m len. ends entity m before at_m len;
  within = λ i a n stands. is.within i a n (was i a n stands);
  apart = λ i j a b n x y. is.apart i j a b n (was i a n x) (was j b n y);
}
  where
    was : (i a n : ℕ) → StandsAt next (set links e l') i a n → StandsAt next links i a n
    was i a n s =
        elim (cases_eq i e) [
          | inl same ↦
              let link : s.link ≡ l' = get_set_is links e l l' s.link at (subst (λ k. slice_get (set links e l') k ≡ Some s.link) same s.is_link) in
              let stands : slice_get (queue_of next l) a ≡ Some n = subst (λ (q : List ℕ). slice_get q a ≡ Some n) queue
              (subst (λ (m : Links). slice_get (queue_of next m) a ≡ Some n) link s.at) in
              record { link = l; is_link = subst (λ k. slice_get links k ≡ Some l) (sym same) at; at = stands }
          | inr away ↦ record { link = s.link; is_link = sym (get_set_other links e i l' away) ∙ s.is_link; at = s.at }
        ]

    ends : (entity : ℕ) (m : Links) (before : ℕ) → slice_get (set links e l') entity ≡ Some m → m.len ≡ suc before → slice_get (queue_of next m) before ≡ Some m.last
    ends entity m before at_m len =
        elim (cases_eq entity e) [
          | inl same ↦
              let link : m ≡ l' = get_set_is links e l l' m at (subst (λ k. slice_get (set links e l') k ≡ Some m) same at_m) in
              let count : l.len ≡ suc before = omega (arith, len, ap (λ (z : Links). z.len) link, len_is) in
              let here : slice_get (queue_of next l') before ≡ Some l.last = subst (λ (q : List ℕ). slice_get q before ≡ Some l.last) (sym queue) (is.last e l before at count) in
              subst (λ (z : Links). slice_get (queue_of next z) before ≡ Some z.last) (sym link) (here ∙ ap Some (sym last_is))
          | inr away ↦ is.last entity m before (sym (get_set_other links e entity l' away) ∙ at_m) len
        ]

-- one number more at the end of one queue, which has the last number
pub pushed_more : (next : List ℕ) (links : List Links) (e number : ℕ) (l l' : Links) → IsLinked next links → slice_get links e ≡ Some l → (l.len ≡ 0 → ⊥)
    → l'.first ≡ l.first → l'.len ≡ l.len + 1 → queue_of (set next l.last number) l' ≡ queue_of next l ++ number ∷ []
pushed_more next links e number l l' is at some first_is len_is = by_len l.len refl some
  where
    by_len : (n : ℕ) → l.len ≡ n → (n ≡ 0 → ⊥) → queue_of (set next l.last number) l' ≡ queue_of next l ++ number ∷ []
    by_len zero len none = absurd (none refl)
    by_len (suc n) len none =
        let ends : slice_get (queue_of next l) n ≡ Some l.last = is.last e l n at len in
        let end : slice_get (walk next l.first (suc n)) n ≡ Some l.last = subst (λ k. slice_get (walk next l.first k) n ≡ Some l.last) len ends in
        let fits : l.last < length next = is.within e n l.last (record { link = l; is_link = at; at = ends }) in
        let kept : walk (set next l.last number) l.first (suc n) ≡ walk next l.first (suc n) =
        walk_kept next l.last number l.first (suc n) (λ a lt at_a.
        let one = is.apart e e a n l.last (record { link = l; is_link = at; at = subst (λ k. slice_get (walk next l.first k) a ≡ Some l.last) (sym len) at_a })
        (record { link = l; is_link = at; at = ends }) in absurd (omega (arith, lt, one.1))) in
        let more = walk_more (set next l.last number) l.first n l.last (subst (λ (q : List ℕ). slice_get q n ≡ Some l.last) (sym kept) end) in
        let count : l'.len ≡ suc (suc n) = omega (arith, len_is, len) in
        ap (λ k. walk (set next l.last number) k l'.len) first_is ∙ (ap (walk (set next l.last number) l.first) count
        ∙ (more ∙ (ap (λ q. q ++ get_or (set next l.last number) l.last 0 ∷ []) kept
        ∙ (ap (λ m. walk next l.first (suc n) ++ m ∷ []) (link_set next l.last number fits) ∙ ap (λ k. walk next l.first k ++ number ∷ []) (sym len)))))

-- and the other queues stay
pub others_kept : (next : List ℕ) (links : List Links) (e number : ℕ) (l : Links) → IsLinked next links → slice_get links e ≡ Some l → (l.len ≡ 0 → ⊥)
    → (f : ℕ) (m : Links) → f ≢ e → slice_get links f ≡ Some m → queue_of (set next l.last number) m ≡ queue_of next m
others_kept next links e number l is at some f m away at_f = by_len l.len refl some
  where
    by_len : (n : ℕ) → l.len ≡ n → (n ≡ 0 → ⊥) → queue_of (set next l.last number) m ≡ queue_of next m
    by_len zero len none = absurd (none refl)
    by_len (suc n) len none =
        walk_kept next l.last number m.first m.len (λ a lt at_a.
        let one = is.apart f e a n l.last (record { link = m; is_link = at_f; at = at_a }) (record { link = l; is_link = at; at = is.last e l n at len }) in
        away one.0)

-- an empty queue gets its first number
pub pushed_first : (next : List ℕ) (l l' : Links) (number : ℕ) → l.len ≡ 0 → l'.first ≡ number → l'.len ≡ 1
    → queue_of next l' ≡ queue_of next l ++ number ∷ []
pushed_first next l l' number none first_is len_is =
    ap (λ k. walk next k l'.len) first_is ∙ (ap (walk next number) len_is ∙ ap (λ k. walk next l.first k ++ number ∷ []) (sym none))

-- a queue without its first number
pub popped_rest : (next : List ℕ) (l l' : Links) → (l.len ≡ 0 → ⊥) → l'.first ≡ get_or next l.first 0 → l'.len ≡ l.len - 1
    → (queue_of next l ≡ l.first ∷ queue_of next l') × (l.len ≡ suc l'.len)
popped_rest next l l' some first_is len_is = by_len l.len refl some
  where
    by_len : (n : ℕ) → l.len ≡ n → (n ≡ 0 → ⊥) → (queue_of next l ≡ l.first ∷ queue_of next l') × (l.len ≡ suc l'.len)
    by_len zero len none = absurd (none refl)
    by_len (suc n) len none =
        let count : n ≡ l'.len = omega (arith, len, len_is) in (
          ap (walk next l.first) len ∙ ap (λ q. l.first ∷ q) (ap (λ k. walk next k n) (sym first_is) ∙ ap (walk next l'.first) count),
          omega (arith, len, count),
        )
