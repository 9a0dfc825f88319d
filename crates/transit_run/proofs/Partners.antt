-- The partners that lines tell.
use Rattle.std.proofs.Common.{◌≡◌, ℕ, zero, suc, ◌-◌, ◌*◌, ◌^◌, ◌<◌, Bool, true, List, [], ◌∷◌, ◌++◌, Option, Some, length, map, min, nat_lt, ltb-true, slice_get, refl, sym, ◌∙◌, ap, subst, append_assoc, arith, Result, Ok, Err, OnOk}
use Rattle.std.proofs.lemmas.List.{append-nil, map-append}
use Rattle.transit_run.specs.Ledger.{Adds}
use Rattle.transit_run.specs.Partners.{Alike, SettlesAlike, TellsAlike, partners_of}
use Rattle.transit_run.specs.Waits.{IsDone, IsFirstAt, Leads, Look, Settles, State, Waits, alike, alikes, state_of}
use Rattle.transit_run.specs.declared.ledger.Ledger.{Ledger}
use Rattle.transit_run.specs.declared.line.BeforeLine.{BeforeLine}
use Rattle.transit_run.specs.declared.line.Line.{Line}
use Rattle.transit_run.specs.declared.line.Line.TheVariants.{Before, After}
use Rattle.transit_run.specs.declared.pairing.Pairing.{Pairing}
use Rattle.transit_run.specs.declared.pass.Pass.{Pass}
use Rattle.transit_run.specs.declared.rows.Partner.{Partner}
use Rattle.transit_run.proofs.Growing.{adds_none, adds_then}

partners_append : (one two : List Line) → partners_of (one ++ two) ≡ partners_of one ++ partners_of two
partners_append [] two = refl
partners_append (Before line ∷ one) two = ap (λ (l : List (Option Partner)). line.partner ∷ l) (partners_append one two)
partners_append (After line ∷ one) two = partners_append one two

-- no line of a frame that went in was written
pub tells_none : (a b : Pass) (now : Option ℕ) (more : List Line) → partners_of more ≡ [] → Adds a.ledger b.ledger more →
    state_of b.pairing ≡ state_of a.pairing → TellsAlike a b now more
tells_none a b now more none adds same = record {
  adds = adds;
  window = ap (λ (s : State). s.window) same;
  lanes = ap (λ (s : State). length s.queues) same;
  alikes = ap (λ (s : State). alikes s) (sym same) ∙ ap (λ (l : List (Option Partner)). map alike l ++ alikes (state_of b.pairing)) (sym none);
  done = λ moment is done. subst (λ (s : State). IsDone moment s) (sym same) done;
  waits = λ moment floor told rows outs is done w.
      subst (λ (s : State). Waits s floor (told ++ partners_of more) rows outs) (sym same)
      (subst (λ (l : List (Option Partner)). Waits (state_of a.pairing) floor l rows outs)
      (sym (append-nil told) ∙ ap (λ (l : List (Option Partner)). told ++ l) (sym none)) w);
}

-- a frame is told only once its window is over
some_expired : (s : State) (now first : ℕ) → 0 < length s.looks → IsFirstAt first s → s.window < 2 ^ 64 →
    min (s.window * 2) (2 ^ 64 - 1) < now - first → IsDone now s → 0 < s.expired
some_expired s now first held at small over done = by s.expired refl
  where
    front : (looks : List Look) → 0 < length looks → (it : Look) × (slice_get looks 0 ≡ Some it)
    front [] h = absurd (omega arith)
    front (it ∷ looks) h = (it, refl)

    by : (n : ℕ) → s.expired ≡ n → 0 < n
    by zero e =
        let it = front s.looks held in
        let late = done it.0 (ap (λ (k : ℕ). slice_get s.looks k) e ∙ it.1) in
        absurd (omega (arith, late, at it.0 it.1, over, small))
    by (suc n) e = omega arith

-- the line of the first frame that went in was written
pub tells_before : (a b : Pass) (now : Option ℕ) (line : BeforeLine) (t : State) (first : ℕ) (certain : Bool) → Adds a.ledger b.ledger (Before line ∷ []) →
    Leads line.partner (state_of a.pairing) t → state_of b.pairing ≡ t → 0 < length (state_of a.pairing).looks →
    IsFirstAt first (state_of a.pairing) → a.pairing.window < 2 ^ 64 → certain ≡ true →
    ((it : ℕ) → now ≡ Some it → certain ≡ nat_lt (min (a.pairing.window * 2) (2 ^ 64 - 1)) (it - first)) →
    TellsAlike a b now (Before line ∷ [])
tells_before a b now line t first certain adds lead same held at small sure past =
    let s : State = state_of a.pairing in
    let expired : (moment : ℕ) → now ≡ Some moment → IsDone moment s → 0 < s.expired =
    λ moment is done. some_expired s moment first held at small
    (ltb-true (min (s.window * 2) (2 ^ 64 - 1)) (moment - first) (sym (past moment is) ∙ sure)) done in
    record {
      adds = adds;
      window = ap (λ (v : State). v.window) same ∙ lead.window;
      lanes = ap (λ (v : State). length v.queues) same ∙ lead.lanes;
      alikes = lead.alikes ∙ ap (λ (v : State). alike line.partner ∷ alikes v) (sym same);
      done = λ moment is done. subst (λ (v : State). IsDone moment v) (sym same) (lead.done moment (expired moment is done) done);
      waits = λ moment floor told rows outs is done w.
          subst (λ (v : State). Waits v floor (told ++ line.partner ∷ []) rows outs) (sym same)
          (lead.waits floor told rows outs (expired moment is done) w);
    }

pub tells_then : (a b c : Pass) (now : Option ℕ) (one two : List Line) → TellsAlike a b now one → TellsAlike b c now two →
    TellsAlike a c now (one ++ two)
tells_then a b c now one two s t = record {
  adds = adds_then a.ledger b.ledger c.ledger one two s.adds t.adds;
  window = t.window ∙ s.window;
  lanes = t.lanes ∙ s.lanes;
  alikes = s.alikes ∙ ap (λ (l : List (Option Partner)). map alike (partners_of one) ++ l) t.alikes
      ∙ sym (append_assoc (map alike (partners_of one)) (map alike (partners_of two)) (alikes (state_of c.pairing)))
      ∙ ap (λ (l : List (Option Partner)). l ++ alikes (state_of c.pairing))
      (sym (map-append alike (partners_of one) (partners_of two)) ∙ ap (λ (l : List (Option Partner)). map alike l) (sym (partners_append one two)));
  done = λ moment is done. t.done moment is (s.done moment is done);
  waits = λ moment floor told rows outs is done w.
      subst (λ (l : List (Option Partner)). Waits (state_of c.pairing) floor l rows outs)
      (append_assoc told (partners_of one) (partners_of two)
      ∙ ap (λ (l : List (Option Partner)). told ++ l) (sym (partners_append one two)))
      (t.waits moment floor (told ++ partners_of one) rows outs is (s.done moment is done) (s.waits moment floor told rows outs is done w));
}

pub alike_then : (a b c : Pass) (now : Option ℕ) → Alike a b now → Alike b c now → Alike a c now
alike_then a b c now s t = (s.0 ++ t.0, tells_then a b c now s.0 t.0 s.1 t.1)

pub alike_same : (a : Pass) (now : Option ℕ) → Alike a a now
alike_same a now = ([], tells_none a a now [] refl (adds_none a.ledger a.ledger refl (λ lines h. h)) refl)

pub settled : (a b c : Pass) (now : Option ℕ) → b.ledger ≡ a.ledger → Settles (state_of a.pairing) (state_of b.pairing) now →
    ((moment : ℕ) → now ≡ Some moment → IsDone moment (state_of b.pairing)) → Alike b c now → SettlesAlike a c now
settled a b c now same s done t = record {
  more = t.0;
  adds = subst (λ (l : Ledger). Adds l c.ledger t.0) same t.1.adds;
  window = t.1.window ∙ s.window;
  lanes = t.1.lanes ∙ s.lanes;
  alikes = sym s.alikes ∙ t.1.alikes;
  waits = λ moment floor told rows outs is below w.
      t.1.waits moment moment told rows outs is (done moment is) (s.waits moment floor told rows outs is below w);
}

pub settled_still : {T E : Type 0} (r : Result T E) (a b c : Pass) (now : Option ℕ) → c.ledger ≡ b.ledger → c.pairing ≡ b.pairing →
    SettlesAlike a b now → OnOk r (SettlesAlike a c now)
settled_still (Err e) a b c now ledger pairing s = tt
settled_still (Ok x) a b c now ledger pairing s = record {
  more = s.more;
  adds = subst (λ (l : Ledger). Adds a.ledger l s.more) (sym ledger) s.adds;
  window = ap (λ (p : Pairing). p.window) pairing ∙ s.window;
  lanes = ap (λ (p : Pairing). length (state_of p).queues) pairing ∙ s.lanes;
  alikes = s.alikes ∙ ap (λ (p : Pairing). map alike (partners_of s.more) ++ alikes (state_of p)) (sym pairing);
  waits = λ moment floor told rows outs is below w.
      subst (λ (p : Pairing). Waits (state_of p) moment (told ++ partners_of s.more) rows outs) (sym pairing)
      (s.waits moment floor told rows outs is below w);
}
