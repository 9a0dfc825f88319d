-- The counts of each link are those of its lines.
use Rattle.std.proofs.Common.{◌≡◌, ◌≢◌, ℕ, zero, suc, ◌+◌, ◌<◌, ◌==◌, Bool, true, false, cond, List, [], ◌∷◌, ◌++◌, Option, Some, None, length, map, filter, min, replicate, nat_lt, get_or, slice_get, slice_index, set, refl, sym, ap, ◌∙◌, subst, inl, inr, arith}
use Rattle.std.specs.List.{AllByRecursion}
use Rattle.std.proofs.lemmas.Bool.{cases_Bool, cond-false, eq-eqb, eqb-true, eqb-false, false≢true, ltb-true, ltb-false}
use Rattle.std.proofs.lemmas.List.{append-nil, get_or-replicate, get_or-set_same, length-replicate, get_or-set_other, length-map, map-append}
use Rattle.std.proofs.Math.ListN.{get_or-eq_default, length-set}
use Rattle.std.proofs.lemmas.List.Elements.{filter-append}
use Rattle.std.proofs.lemmas.Option.{none-some, same_Some, slice_get_read, slice_get_within}
use Rattle.transit_match.proofs.Lists.{all_by, all_more, get_cases, get_last, get_left}
use Rattle.afdx_frame.specs.declared.key.VlId.{VlId}
use Rattle.transit_run.specs.Counts.{IsCountOf, IsIndexed, IsListed, IsTallyOf, capped, head_of, is_foreign, is_of, is_unconfigured, links_of, same_link, with_class}
use Rattle.transit_run.specs.Line.{link_of}
use Rattle.transit_run.specs.declared.counts.Counts.{Counts}
use Rattle.transit_run.specs.declared.counts.LinkCounts.{LinkCounts}
use Rattle.transit_run.specs.declared.line.Line.{Line}
use Rattle.transit_run.specs.declared.tally.Tally.{Tally}
use Rattle.transit_run.proofs.Tallies.{counted_if}

-- ---- lists

get_set_same : {X : Type 0} (xs : List X) (i : ℕ) (x y : X) → slice_get xs i ≡ Some x → slice_get (set xs i y) i ≡ Some y
get_set_same [] i x y e = absurd (none-some x e)
get_set_same (z ∷ xs) zero x y e = refl
get_set_same (z ∷ xs) (suc i) x y e = get_set_same xs i x y e

get_set_other : {X : Type 0} (xs : List X) (i j : ℕ) (y : X) → j ≢ i → slice_get (set xs i y) j ≡ slice_get xs j
get_set_other [] i j y h = refl
get_set_other (z ∷ xs) zero zero y h = absurd (h refl)
get_set_other (z ∷ xs) zero (suc j) y h = refl
get_set_other (z ∷ xs) (suc i) zero y h = refl
get_set_other (z ∷ xs) (suc i) (suc j) y h = get_set_other xs i j y (λ e. h (ap suc e))

filter_yes : {X : Type 0} (p : X → Bool) (xs : List X) (x : X) → p x ≡ true → filter p (xs ++ x ∷ []) ≡ filter p xs ++ x ∷ []
filter_yes {X} p xs x t = filter-append p xs (x ∷ []) ∙ ap (λ (b : Bool). filter p xs ++ cond b (x ∷ []) []) t

filter_no : {X : Type 0} (p : X → Bool) (xs : List X) (x : X) → p x ≡ false → filter p (xs ++ x ∷ []) ≡ filter p xs
filter_no {X} p xs x f = filter-append p xs (x ∷ []) ∙ ap (λ (b : Bool). filter p xs ++ cond b (x ∷ []) []) f ∙ append-nil (filter p xs)

filter_none : {X : Type 0} (p : X → Bool) (xs : List X) → AllByRecursion (λ x. p x ≡ false) xs → filter p xs ≡ []
filter_none p [] all = refl
filter_none p (x ∷ xs) all = cond-false (p x) (x ∷ filter p xs) (filter p xs) all.0 ∙ filter_none p xs all.1

-- ---- links

same_link-refl : (a : Option VlId) → same_link a a ≡ true
same_link-refl None = refl
same_link-refl (Some a) = eq-eqb a.0 a.0 refl

of_number : ℕ → Option VlId
of_number n = Some (record { 0 = n })

same_link-true : (a b : Option VlId) → same_link a b ≡ true → a ≡ b
unfolding of_number
same_link-true None None e = refl
same_link-true None (Some b) e = absurd (false≢true e)
same_link-true (Some a) None e = absurd (false≢true e)
same_link-true (Some a) (Some b) e = ap of_number (eqb-true a.0 b.0 e)

same_id : (a b : VlId) → a.0 ≡ b.0 → Some a ≡ Some b
unfolding of_number
same_id a b e = ap of_number e

link_at : (links : List LinkCounts) (place : ℕ) (one : LinkCounts) → slice_get links place ≡ Some one →
    slice_get (map (λ (it : LinkCounts). it.link) links) place ≡ Some one.link
link_at [] place one e = absurd (none-some one e)
link_at (x ∷ links) zero one e = ap (λ (it : LinkCounts). Some it.link) (same_Some x one e)
link_at (x ∷ links) (suc place) one e = link_at links place one e

links_set : (links : List LinkCounts) (place : ℕ) (one new : LinkCounts) → slice_get links place ≡ Some one → new.link ≡ one.link →
    map (λ (it : LinkCounts). it.link) (set links place new) ≡ map (λ (it : LinkCounts). it.link) links
links_set [] place one new e h = refl
links_set (x ∷ links) zero one new e h =
    ap (λ (link : Option VlId). link ∷ map (λ (it : LinkCounts). it.link) links) (h ∙ ap (λ (it : LinkCounts). it.link) (sym (same_Some x one e)))
links_set (x ∷ links) (suc place) one new e h =
    ap (λ (rest : List (Option VlId)). x.link ∷ rest) (links_set links place one new e h)

pub one_place : (index : List ℕ) (links : List (Option VlId)) (p q : ℕ) (link : Option VlId) → IsIndexed index links →
    slice_get links p ≡ Some link → slice_get links q ≡ Some link → p ≡ q
one_place index links p q None s e f = s.once p e ∙ sym (s.once q f)
one_place index links p q (Some id) s e f = sym (s.found p id e) ∙ s.found q id f

-- ---- a line is counted

-- The tallies are those of the lines and one more, of the link at the place.
pub tallies_counted : (links : List LinkCounts) (lines : List Line) (line : Line) (place : ℕ) (one : LinkCounts) (tally : Tally) →
    slice_get links place ≡ Some one → one.link ≡ link_of (head_of line) →
    ((p : ℕ) (other : LinkCounts) → slice_get links p ≡ Some other → other.link ≡ link_of (head_of line) → p ≡ place) →
    ((p : ℕ) (other : LinkCounts) → slice_get links p ≡ Some other → IsTallyOf other.tally (filter (is_of other.link) lines)) →
    IsTallyOf tally (filter (is_of one.link) lines ++ line ∷ []) →
    (p : ℕ) (other : LinkCounts) → slice_get (set links place (record one { tally = tally })) p ≡ Some other →
    IsTallyOf other.tally (filter (is_of other.link) (lines ++ line ∷ []))
tallies_counted links lines line place one tally at is once before counted p other e =
    let new : LinkCounts = record one { tally = tally } in
    elim (cases_Bool (p == place)) [
      | inl is_so ↦
          let here : p ≡ place = eqb-true p place is_so in
          let it : new ≡ other = same_Some new other
          (sym (get_set_same links place one new at) ∙ ap (λ (k : ℕ). slice_get (set links place new) k) (sym here) ∙ e) in
          let of : is_of one.link line ≡ true =
          ap (λ (link : Option VlId). same_link link (link_of (head_of line))) is ∙ same_link-refl (link_of (head_of line)) in
          subst (λ (o : LinkCounts). IsTallyOf o.tally (filter (is_of o.link) (lines ++ line ∷ []))) it
          (subst (λ (all : List Line). IsTallyOf tally all) (sym (filter_yes (is_of one.link) lines line of)) counted)
      | inr is_not ↦
          let there : slice_get links p ≡ Some other = sym (get_set_other links place p new (eqb-false p place is_not)) ∙ e in
          elim (cases_Bool (is_of other.link line)) [
            | inl of ↦ absurd (eqb-false p place is_not (once p other there (same_link-true other.link (link_of (head_of line)) of)))
            | inr not_of ↦ subst (λ (all : List Line). IsTallyOf other.tally all) (sym (filter_no (is_of other.link) lines line not_of)) (before p other there)
          ]
    ]

-- ---- a link is added

listed_more : (links : List (Option VlId)) (link : Option VlId) (lines : List Line) →
    AllByRecursion (λ line. IsListed links (link_of (head_of line))) lines →
    AllByRecursion (λ line. IsListed (links ++ link ∷ []) (link_of (head_of line))) lines
listed_more links link lines all =
    all_by (λ (line : Line). IsListed links (link_of (head_of line))) (λ (line : Line). IsListed (links ++ link ∷ []) (link_of (head_of line))) lines
    (λ line at. (at.0, get_left links (link ∷ []) at.0 (slice_get_within links at.0 (link_of (head_of line)) at.1) ∙ at.1)) all

indexed_more : (index : List ℕ) (links : List (Option VlId)) (id : VlId) → id.0 < length index → slice_index index id.0 ≡ 0 →
    IsIndexed index links → IsIndexed (set index id.0 (length links)) (links ++ Some id ∷ [])
indexed_more index links id room free s =
    let n : ℕ = length links in
    let here : slice_index (set index id.0 n) id.0 ≡ n = get_or-set_same index id.0 n 0 room in
    let there : (other : VlId) → (id.0 == other.0) ≡ false → slice_index (set index id.0 n) other.0 ≡ slice_index index other.0 =
    λ other is_not. get_or-set_other index id.0 other.0 n 0 (λ e. eqb-false id.0 other.0 is_not (sym e)) in
    let at : (other : VlId) → id.0 ≡ other.0 → slice_index (set index id.0 n) other.0 ≡ n =
    λ other e. ap (λ (k : ℕ). slice_index (set index id.0 n) k) (sym e) ∙ here in
    let left : (place : ℕ) (link : Option VlId) → slice_get links place ≡ Some link → slice_get (links ++ Some id ∷ []) place ≡ Some link =
    λ place link e. get_left links (Some id ∷ []) place (slice_get_within links place link e) ∙ e in
    record {
      first = left 0 None s.first;
      once = λ place e. elim (get_cases links (Some id) None place e) [
        | inl p ↦ s.once place p.1
        | inr p ↦ absurd (cc p.1)
      ];
      listed = λ other ne. elim (cases_Bool (id.0 == other.0)) [
        | inl is_so ↦
            let e : id.0 ≡ other.0 = eqb-true id.0 other.0 is_so in
            ap (λ (k : ℕ). slice_get (links ++ Some id ∷ []) k) (at other e) ∙ get_last links (Some id) ∙ ap (λ (it : Option VlId). Some it) (same_id id other e)
        | inr is_not ↦
            ap (λ (k : ℕ). slice_get (links ++ Some id ∷ []) k) (there other is_not)
            ∙ left (slice_index index other.0) (Some other) (s.listed other (λ e. ne (there other is_not ∙ e)))
      ];
      found = λ place other e. elim (get_cases links (Some id) (Some other) place e) [
        | inl p ↦ elim (cases_Bool (id.0 == other.0)) [
          | inl is_so ↦
              let same : id.0 ≡ other.0 = eqb-true id.0 other.0 is_so in
              let first : place ≡ 0 = sym (s.found place other p.1) ∙ ap (λ (k : ℕ). slice_index index k) (sym same) ∙ free in
              let none : Some None ≡ Some (Some other) = sym s.first ∙ ap (λ (k : ℕ). slice_get links k) (sym first) ∙ p.1 in
              absurd (cc none)
          | inr is_not ↦ there other is_not ∙ s.found place other p.1
        ]
        | inr p ↦ at other (ap (λ (it : VlId). it.0) (same_Some id other p.1)) ∙ sym p.0
      ];
    }

-- no line is of a link that has no place
none_of : (index : List ℕ) (links : List (Option VlId)) (id : VlId) (lines : List Line) → slice_index index id.0 ≡ 0 → IsIndexed index links →
    AllByRecursion (λ line. IsListed links (link_of (head_of line))) lines → AllByRecursion (λ line. is_of (Some id) line ≡ false) lines
none_of index links id lines free s all =
    all_by (λ (line : Line). IsListed links (link_of (head_of line))) (λ (line : Line). is_of (Some id) line ≡ false) lines
    (λ line at. elim (cases_Bool (is_of (Some id) line)) [
      | inl is_so ↦
          let link : Some id ≡ link_of (head_of line) = same_link-true (Some id) (link_of (head_of line)) is_so in
          let place : slice_get links at.0 ≡ Some (Some id) = at.1 ∙ ap (λ (it : Option VlId). Some it) (sym link) in
          let first : at.0 ≡ 0 = sym (s.found at.0 id place) ∙ free in
          let none : Some None ≡ Some (Some id) = sym s.first ∙ ap (λ (k : ℕ). slice_get links k) (sym first) ∙ place in
          absurd (cc none)
      | inr is_not ↦ is_not
    ]) all

-- the tallies with one of no line
tallies_more : (links : List LinkCounts) (lines : List Line) (new : LinkCounts) →
    ((p : ℕ) (other : LinkCounts) → slice_get links p ≡ Some other → IsTallyOf other.tally (filter (is_of other.link) lines)) →
    IsTallyOf new.tally [] → filter (is_of new.link) lines ≡ [] →
    (p : ℕ) (other : LinkCounts) → slice_get (links ++ new ∷ []) p ≡ Some other → IsTallyOf other.tally (filter (is_of other.link) lines)
tallies_more links lines new before empty none p other e =
    elim (get_cases links new other p e) [
      | inl h ↦ before p other h.1
      | inr h ↦ subst (λ (o : LinkCounts). IsTallyOf o.tally (filter (is_of o.link) lines)) h.1
          (subst (λ (all : List Line). IsTallyOf new.tally all) (sym none) empty)
    ]

pub link_added : (old new : Counts) (lines : List Line) (id : VlId) (tally : Tally) → IsCountOf old lines →
    slice_index old.index.items id.0 ≡ 0 → id.0 < 65536 → IsTallyOf tally [] →
    new.all ≡ old.all → new.foreign ≡ old.foreign → new.unconfigured ≡ old.unconfigured →
    new.links.items ≡ old.links.items ++ record { link = Some id; tally = tally } ∷ [] →
    new.index.items ≡ set old.index.items id.0 (length old.links.items) → IsCountOf new lines
link_added old new lines id tally s free small empty all foreign unconfigured links index =
    let one : LinkCounts = record { link = Some id; tally = tally } in
    let names : links_of new ≡ links_of old ++ Some id ∷ [] =
    ap (λ (l : List LinkCounts). map (λ (it : LinkCounts). it.link) l) links ∙ map-append (λ (it : LinkCounts). it.link) old.links.items (one ∷ []) in
    let count : length (links_of old) ≡ length old.links.items = length-map old.links.items (λ (it : LinkCounts). it.link) in
    let of_none : filter (is_of (Some id)) lines ≡ [] =
    filter_none (is_of (Some id)) lines (none_of old.index.items (links_of old) id lines free s.indexed s.listed) in
    record {
      all = subst (λ (t : Tally). IsTallyOf t lines) (sym all) s.all;
      foreign = foreign ∙ s.foreign;
      unconfigured = unconfigured ∙ s.unconfigured;
      links = subst (λ (l : List LinkCounts). (p : ℕ) (other : LinkCounts) → slice_get l p ≡ Some other → IsTallyOf other.tally (filter (is_of other.link) lines))
          (sym links) (tallies_more old.links.items lines one s.links empty of_none);
      listed = subst (λ (l : List (Option VlId)). AllByRecursion (λ line. IsListed l (link_of (head_of line))) lines) (sym names)
          (listed_more (links_of old) (Some id) lines s.listed);
      room = ap (λ (l : List ℕ). length l) index ∙ length-set old.index.items id.0 (length old.links.items) ∙ s.room;
      indexed = subst (λ (l : List (Option VlId)). IsIndexed new.index.items l) (sym names)
          (subst (λ (i : List ℕ). IsIndexed i (links_of old ++ Some id ∷ [])) (ap (λ (n : ℕ). set old.index.items id.0 n) count ∙ sym index)
          (indexed_more old.index.items (links_of old) id (omega (arith, s.room)) free s.indexed));
    }

-- ---- the calls

pub line_counted : (old new : Counts) (lines : List Line) (line : Line) (place : ℕ) (one : LinkCounts) (tally : Tally) → IsCountOf old lines →
    slice_get (links_of old) place ≡ Some (link_of (head_of line)) → slice_get old.links.items place ≡ Some one →
    ((ls : List Line) → IsTallyOf old.all ls → IsTallyOf new.all (ls ++ line ∷ [])) →
    ((ls : List Line) → IsTallyOf one.tally ls → IsTallyOf tally (ls ++ line ∷ [])) →
    new.foreign ≡ cond (is_foreign line) (capped (old.foreign + 1)) old.foreign →
    new.unconfigured ≡ cond (is_unconfigured line) (capped (old.unconfigured + 1)) old.unconfigured →
    new.links.items ≡ set old.links.items place (record one { tally = tally }) → new.index.items ≡ old.index.items → IsCountOf new (lines ++ line ∷ [])
line_counted old new lines line place one tally s at item all of_link foreign unconfigured links index =
    let name : one.link ≡ link_of (head_of line) = same_Some one.link (link_of (head_of line)) (sym (link_at old.links.items place one item) ∙ at) in
    let once : (p : ℕ) (other : LinkCounts) → slice_get old.links.items p ≡ Some other → other.link ≡ link_of (head_of line) → p ≡ place =
    λ p other e n. one_place old.index.items (links_of old) p place (link_of (head_of line)) s.indexed
    (link_at old.links.items p other e ∙ ap (λ (it : Option VlId). Some it) n) at in
    let names : links_of new ≡ links_of old =
    ap (λ (l : List LinkCounts). map (λ (it : LinkCounts). it.link) l) links ∙ links_set old.links.items place one (record one { tally = tally }) item refl in
    record {
      all = all lines s.all;
      foreign = foreign ∙ counted_if is_foreign lines line old.foreign (is_foreign line) s.foreign refl;
      unconfigured = unconfigured ∙ counted_if is_unconfigured lines line old.unconfigured (is_unconfigured line) s.unconfigured refl;
      links = subst (λ (l : List LinkCounts). (p : ℕ) (other : LinkCounts) → slice_get l p ≡ Some other →
          IsTallyOf other.tally (filter (is_of other.link) (lines ++ line ∷ []))) (sym links)
          (tallies_counted old.links.items lines line place one tally item name once s.links
          (of_link (filter (is_of one.link) lines) (s.links place one item)));
      listed = subst (λ (l : List (Option VlId)). AllByRecursion (λ it. IsListed l (link_of (head_of it))) (lines ++ line ∷ [])) (sym names)
          (all_more (λ (it : Line). IsListed (links_of old) (link_of (head_of it))) lines line s.listed (place, at));
      room = ap (λ (l : List ℕ). length l) index ∙ s.room;
      indexed = subst (λ (l : List (Option VlId)). IsIndexed new.index.items l) (sym names)
          (subst (λ (i : List ℕ). IsIndexed i (links_of old)) (sym index) s.indexed);
    }

-- the same after the frame's class is counted
pub line_counted_after : (old mid new : Counts) (lines : List Line) (line : Line) (place : ℕ) (one : LinkCounts) (tally all : Tally) →
    mid ≡ with_class old line → IsCountOf old lines → slice_get (links_of old) place ≡ Some (link_of (head_of line)) →
    one ≡ get_or mid.links.items place one →
    ((ls : List Line) → IsTallyOf mid.all ls → IsTallyOf all (ls ++ line ∷ [])) →
    ((ls : List Line) → IsTallyOf one.tally ls → IsTallyOf tally (ls ++ line ∷ [])) →
    new.all ≡ all → new.foreign ≡ mid.foreign → new.unconfigured ≡ mid.unconfigured →
    new.links.items ≡ set mid.links.items place (record one { tally = tally }) → new.index.items ≡ mid.index.items → IsCountOf new (lines ++ line ∷ [])
line_counted_after old mid new lines line place one tally all class s at item more more_of_link same foreign unconfigured links index =
    let now : List LinkCounts = old.links.items in
    let stay : mid.links.items ≡ now = ap (λ (m : Counts). m.links.items) class in
    let inside : place < length now =
    omega (arith, slice_get_within (links_of old) place (link_of (head_of line)) at, length-map now (λ (it : LinkCounts). it.link)) in
    let here : slice_get now place ≡ Some one =
    slice_get_read now (length now) place one refl inside (subst (λ (l : List LinkCounts). one ≡ get_or l place one) stay item) in
    line_counted old new lines line place one tally s at here
    (λ ls t. subst (λ (it : Tally). IsTallyOf it (ls ++ line ∷ [])) (sym same) (more ls (subst (λ (m : Counts). IsTallyOf m.all ls) (sym class) t)))
    more_of_link
    (foreign ∙ ap (λ (m : Counts). m.foreign) class) (unconfigured ∙ ap (λ (m : Counts). m.unconfigured) class)
    (links ∙ ap (λ (l : List LinkCounts). set l place (record one { tally = tally })) stay) (index ∙ ap (λ (m : Counts). m.index.items) class)

pub place_inside : (old mid : Counts) (line : Line) (place : ℕ) (link : Option VlId) → mid ≡ with_class old line →
    slice_get (links_of old) place ≡ Some link → place < length mid.links.items
place_inside old mid line place link class at =
    let stay : mid.links.items ≡ old.links.items = ap (λ (m : Counts). m.links.items) class in
    omega (
      arith,
      slice_get_within (links_of old) place link at,
      length-map old.links.items (λ (it : LinkCounts). it.link),
      ap (λ (l : List LinkCounts). length l) stay,
    )

pub count_kept : (old new : Counts) (lines : List Line) → IsCountOf old lines → new.all ≡ old.all → new.foreign ≡ old.foreign →
    new.unconfigured ≡ old.unconfigured → new.links.items ≡ old.links.items → new.index.items ≡ old.index.items → IsCountOf new lines
count_kept old new lines s all foreign unconfigured links index = record {
  all = subst (λ (t : Tally). IsTallyOf t lines) (sym all) s.all;
  foreign = foreign ∙ s.foreign;
  unconfigured = unconfigured ∙ s.unconfigured;
  links = subst (λ (l : List LinkCounts). (p : ℕ) (other : LinkCounts) → slice_get l p ≡ Some other → IsTallyOf other.tally (filter (is_of other.link) lines))
      (sym links) s.links;
  listed = subst (λ (l : List LinkCounts). AllByRecursion (λ line. IsListed (map (λ (it : LinkCounts). it.link) l) (link_of (head_of line))) lines)
      (sym links) s.listed;
  room = ap (λ (l : List ℕ). length l) index ∙ s.room;
  indexed = subst (λ (l : List LinkCounts). IsIndexed new.index.items (map (λ (it : LinkCounts). it.link) l)) (sym links)
      (subst (λ (i : List ℕ). IsIndexed i (links_of old)) (sym index) s.indexed);
}

pub place_added : (links after : List LinkCounts) (id : VlId) (tally : Tally) (place : ℕ) →
    after ≡ links ++ record { link = Some id; tally = tally } ∷ [] → place ≡ length links →
    slice_get (map (λ (it : LinkCounts). it.link) after) place ≡ Some (Some id)
place_added links after id tally place e at =
    let one : LinkCounts = record { link = Some id; tally = tally } in
    ap (λ (l : List LinkCounts). slice_get (map (λ (it : LinkCounts). it.link) l) place) e
    ∙ link_at (links ++ one ∷ []) place one (ap (λ (k : ℕ). slice_get (links ++ one ∷ []) k) at ∙ get_last links one)

pub choice_noted : (old : Counts) (choices : ℕ) (lines : List Line) → IsCountOf old lines →
    IsCountOf (record old { all = record old.all { choices = choices } }) lines
choice_noted old choices lines s = record {
  all = record { before = s.all.before; after = s.all.after; fates = s.all.fates; origins = s.all.origins };
  foreign = s.foreign;
  unconfigured = s.unconfigured;
  links = s.links;
  listed = s.listed;
  room = s.room;
  indexed = s.indexed;
}

zeros : (n i : ℕ) → slice_index (replicate n 0) i ≡ 0
zeros n i = elim (cases_Bool (nat_lt i n)) [
  | inl is_so ↦ get_or-replicate n i 0 0 (ltb-true i n is_so)
  | inr is_not ↦ get_or-eq_default (replicate n 0) 0 (omega (arith, length-replicate {A = ℕ}, ltb-false i n is_not))
]

only_first : (place : ℕ) → slice_get {X = Option VlId} (None ∷ []) place ≡ Some None → place ≡ 0
only_first zero e = refl
only_first (suc place) e = absurd (none-some None e)

no_id : (n place : ℕ) (id : VlId) → slice_get {X = Option VlId} (None ∷ []) place ≡ Some (Some id) → slice_index (replicate n 0) id.0 ≡ place
no_id n zero id e = absurd (cc e)
no_id n (suc place) id e = absurd (none-some (Some id) e)

indexed_none : (n : ℕ) → IsIndexed (replicate n 0) (None ∷ [])
indexed_none n = record {
  first = refl;
  once = only_first;
  listed = λ id ne. absurd (ne (zeros n id.0));
  found = no_id n;
}

tallies_first : (tally : Tally) → IsTallyOf tally [] → (p : ℕ) (other : LinkCounts) → slice_get (record { link = None; tally = tally } ∷ []) p ≡ Some other →
    IsTallyOf other.tally []
tallies_first tally s zero other e = subst (λ (o : LinkCounts). IsTallyOf o.tally []) (same_Some (record { link = None; tally = tally }) other e) s
tallies_first tally s (suc p) other e = absurd (none-some other e)

pub none_counted : (new : Counts) (tally : Tally) (n : ℕ) → IsTallyOf tally [] → n ≡ 65536 → new.all ≡ tally → new.foreign ≡ 0 → new.unconfigured ≡ 0 →
    new.links.items ≡ record { link = None; tally = tally } ∷ [] → new.index.items ≡ replicate n 0 → IsCountOf new []
none_counted new tally n s many all foreign unconfigured links index = record {
  all = subst (λ (t : Tally). IsTallyOf t []) (sym all) s;
  foreign = foreign;
  unconfigured = unconfigured;
  links = subst (λ (l : List LinkCounts). (p : ℕ) (other : LinkCounts) → slice_get l p ≡ Some other → IsTallyOf other.tally [])
      (sym links) (tallies_first tally s);
  listed = tt;
  room = ap (λ (l : List ℕ). length l) index ∙ length-replicate n 0 ∙ many;
  indexed = subst (λ (l : List (Option VlId)). IsIndexed new.index.items l) (sym (ap (λ (l : List LinkCounts). map (λ (it : LinkCounts). it.link) l) links))
      (subst (λ (i : List ℕ). IsIndexed i (None ∷ [])) (sym index) (indexed_none n));
}
