-- The frames that are kept of those that were read, at each step.
use Rattle.std.proofs.Common.{◌≡◌, ◌⊎◌, inl, inr, ℕ, zero, suc, ◌≤◌, List, [], ◌∷◌, ◌++◌, Option, None, Some, length, slice_get, refl, sym, ap, ◌∙◌, subst, arith}
use Rattle.std.proofs.lemmas.Option.{same_Some, slice_get_within}
use Rattle.std.specs.BTreeMap.{BTreeMap}
use Rattle.afdx_frame.specs.Frame.{Frame}
use Rattle.cut_run.specs.Places.{IsAbove, IsBelow, place_of}
use Rattle.cut_run.specs.Passed.{AreKept, Forgets, KeepsLater, Takes, passed_at}
use Rattle.cut_run.specs.declared.place.SearchPlace.{SearchPlace}
use Rattle.cut_run.proofs.FinderOrder.{above_further, not_both, not_itself, three}

pub get_front : {X : Type 0} (xs ys : List X) (n : ℕ) (x : X) → slice_get xs n ≡ Some x → slice_get (xs ++ ys) n ≡ Some x
get_front [] ys n x e = cc
get_front (y ∷ xs) ys zero x e = e
get_front (y ∷ xs) ys (suc n) x e = get_front xs ys n x e

pub get_last : {X : Type 0} (xs : List X) (x : X) → slice_get (xs ++ x ∷ []) (length xs) ≡ Some x
get_last [] x = refl
get_last (y ∷ xs) x = get_last xs x

-- an element of a list with one more is the last, or of the list
pub get_more : {X : Type 0} (xs : List X) (y : X) (n : ℕ) (x : X) → slice_get (xs ++ y ∷ []) n ≡ Some x → (slice_get xs n ≡ Some x) ⊎ ((n ≡ length xs) × (x ≡ y))
get_more [] y zero x e = inr (refl, same_Some x y (sym e))
get_more [] y (suc n) x e = cc
get_more (z ∷ xs) y zero x e = inl e
get_more (z ∷ xs) y (suc n) x e = elim (get_more xs y n x e) [ inl a ↦ inl a | inr b ↦ inr (ap suc b.0, b.1) ]

-- each frame's number is its index
abbrev pub AreNumbered : List Frame → Type 0
AreNumbered frames = (n : ℕ) (f : Frame) → slice_get frames n ≡ Some f → f.number ≡ n

module _ (frames : List Frame) (place : SearchPlace) (f : Frame) (old new : BTreeMap SearchPlace Frame) (number : f.number ≡ length frames)
    (kept : AreKept frames (Some place) old) (keeps : KeepsLater place f old new) where
  from_old : (q : SearchPlace) (g : Frame) → passed_at old q ≡ Some g → (place_of g ≡ q) × (slice_get (frames ++ f ∷ []) q.number ≡ Some g) × IsBelow place q
  from_old q g e = (let x = kept.read q g e in (x.0, get_front frames (f ∷ []) q.number g x.1, x.2))

  other : (q : SearchPlace) (g : Frame) → (q ≡ place_of f → IsBelow place q → ⊥) → passed_at new q ≡ Some g
      → (place_of g ≡ q) × (slice_get (frames ++ f ∷ []) q.number ≡ Some g) × IsBelow place q
  other q g d e = from_old q g (sym (keeps.1 q d) ∙ e)

  this : (q : SearchPlace) (g : Frame) → place_of f ≡ q → IsBelow place q → passed_at new q ≡ Some g
      → (place_of g ≡ q) × (slice_get (frames ++ f ∷ []) q.number ≡ Some g) × IsBelow place q
  this q g same above e =
      let is : passed_at new q ≡ Some f = subst (λ (x : SearchPlace). passed_at new x ≡ Some f) same (keeps.0 (subst (λ (x : SearchPlace). IsBelow place x) (sym same) above)) in
      let one : f ≡ g = same_Some f g (sym is ∙ e) in
      let at : q.number ≡ length frames = ap (λ (x : SearchPlace). x.number) (sym same) ∙ number in (
        subst (λ (x : Frame). place_of x ≡ q) one same,
        subst (λ (x : Frame). slice_get (frames ++ f ∷ []) q.number ≡ Some x) one (ap (slice_get (frames ++ f ∷ [])) at ∙ get_last frames f),
        above,
      )

  read_by : (q : SearchPlace) (g : Frame) → IsBelow (place_of f) q ⊎ ((place_of f ≡ q) ⊎ IsBelow q (place_of f)) → IsBelow place q ⊎ ((place ≡ q) ⊎ IsBelow q place) → passed_at new q ≡ Some g
      → (place_of g ≡ q) × (slice_get (frames ++ f ∷ []) q.number ≡ Some g) × IsBelow place q
  read_by q g (inl a) b e = other q g (λ s _. not_itself q (subst (λ (x : SearchPlace). IsBelow x q) (sym s) a)) e
  read_by q g (inr (inr a)) b e = other q g (λ s _. not_itself q (subst (λ (x : SearchPlace). IsBelow q x) (sym s) a)) e
  read_by q g (inr (inl a)) (inl b) e = this q g a b e
  read_by q g (inr (inl a)) (inr (inl b)) e = other q g (λ _ c. not_itself q (subst (λ (x : SearchPlace). IsBelow x q) b c)) e
  read_by q g (inr (inl a)) (inr (inr b)) e = other q g (λ _ c. not_both q place b c) e

  all_by : AreNumbered frames → (n : ℕ) (g : Frame) → (slice_get frames n ≡ Some g) ⊎ ((n ≡ length frames) × (g ≡ f)) → IsBelow place (place_of g) → passed_at new (place_of g) ≡ Some g
  all_by numbered n g (inr (at, same)) above =
      subst (λ (x : Frame). passed_at new (place_of x) ≡ Some x) (sym same) (keeps.0 (subst (λ (x : Frame). IsBelow place (place_of x)) same above))
  all_by numbered n g (inl h) above =
      let within = slice_get_within frames n g h in
      let is = numbered n g h in
      keeps.1 (place_of g) (λ s _. (let t : g.number ≡ f.number = ap (λ (x : SearchPlace). x.number) s in absurd (omega arith))) ∙ kept.all n g h above

  -- one frame more was read
  pub kept_more : AreNumbered frames → AreKept (frames ++ f ∷ []) (Some place) new
  kept_more numbered = record {
    read = λ q g e. read_by q g (three (place_of f) q) (three place q) e;
    all = λ n g e above. all_by numbered n g (get_more frames f n g e) above;
  }

module _ (frames : List Frame) (floor : Option SearchPlace) (place : SearchPlace) (old mid : BTreeMap SearchPlace Frame) (above : IsAbove floor place)
    (kept : AreKept frames floor old) (forgets : Forgets place old mid) where
  -- all that stands of those that are kept, once those below the place are dropped
  pub stays : (q : SearchPlace) (f : Frame) → passed_at mid q ≡ Some f → (IsBelow q place → ⊥) × (passed_at old q ≡ Some f)
  stays q f e = (λ b. (let none = forgets.0 q b in cc), sym (forgets.1 q (λ b. (let none = forgets.0 q b in cc))) ∙ e)

  pub at_place : passed_at mid place ≡ passed_at old place
  at_place = forgets.1 place (not_itself place)

  later : (q : SearchPlace) → (IsBelow q place → ⊥) → (q ≡ place → ⊥) → IsBelow place q ⊎ ((place ≡ q) ⊎ IsBelow q place) → IsBelow place q
  later q a b (inl c) = c
  later q a b (inr (inl c)) = absurd (b (sym c))
  later q a b (inr (inr c)) = absurd (a c)

  all_later : (n : ℕ) (f : Frame) → slice_get frames n ≡ Some f → IsBelow place (place_of f) → passed_at mid (place_of f) ≡ Some f
  all_later n f e b = forgets.1 (place_of f) (λ c. not_both place (place_of f) b c) ∙ kept.all n f e (above_further floor place (place_of f) above b)

  -- the one at the place is taken out
  pub kept_after : (new : BTreeMap SearchPlace Frame) → Takes place mid new → AreKept frames (Some place) new
  kept_after new takes = record {
    read = λ q f e. (let apart : q ≡ place → ⊥ = λ s. (let gone : passed_at new q ≡ None = ap (passed_at new) s ∙ takes.0 in cc) in
        let here : passed_at mid q ≡ Some f = sym (takes.1 q apart) ∙ e in
        let was = stays q f here in
        let is = kept.read q f was.1 in
        (is.0, is.1, later q was.0 apart (three place q)));
    all = λ n f e b. takes.1 (place_of f) (λ s. not_itself place (subst (λ (x : SearchPlace). IsBelow place x) s b)) ∙ all_later n f e b;
  }

  -- none stands at the place, as its index wasn't read yet
  pub kept_ahead : length frames ≤ place.number → AreKept frames (Some place) mid
  kept_ahead ahead = record {
    read = λ q f e. (let was = stays q f e in
        let is = kept.read q f was.1 in
        let within = slice_get_within frames q.number f is.1 in
        let apart : q ≡ place → ⊥ = λ s. (let t : q.number ≡ place.number = ap (λ (x : SearchPlace). x.number) s in absurd (omega arith)) in
        (is.0, is.1, later q was.0 apart (three place q)));
    all = all_later;
  }
