-- The knowledge of a lane after one more frame.
use Rattle.std.proofs.Common.{◌≡◌, Bool, true, false, ◌&&◌, cond, List, [], ◌∷◌, ◌++◌, Option, Some, None, option_map, option_to_list, refl, sym, ◌∙◌, ap, subst}
use Rattle.std.proofs.lemmas.List.{append-nil}
use Rattle.std.proofs.lemmas.List.Elements.{filter_map-append}
use Rattle.std.specs.List.{filter_map, cons_option}
use Rattle.afdx_frame.specs.Frame.{Frame}
use Rattle.afdx_frame.specs.declared.key.Network.{Network}
use Rattle.afdx_frame.specs.declared.key.Network.TheVariants.{A, B}
use Rattle.vl_config.specs.Link.{VirtualLink}
use Rattle.vl_config.specs.declared.class.Class.{Class}
use Rattle.policing.specs.Balance as account
use Rattle.integrity.specs.Sequence as check
use Rattle.redundancy.specs.Deliveries as deliveries
use Rattle.vl_judge.specs.declared.lane.Side.{Side}
use Rattle.vl_judge.specs.declared.lane.Lane.{Lane}
use Rattle.vl_judge.specs.Judgement.{stopped_verdict}
use Rattle.vl_judge.specs.Verdicts.{Judged, is_of, is_same, size_of, sequence_number, policed_entries, checked_numbers, managed_entries, policed_entry, checked_number, managed_entry}
use Rattle.vl_judge.specs.Lane.{SideStandsAfter, LaneStandsAfter}

cons_option-nil : {X : Type 0} (o : Option X) → cons_option o [] ≡ option_to_list o
cons_option-nil None = refl
cons_option-nil (Some x) = refl

filter_map-last : {X Y : Type 0} (h : X → Option Y) (xs : List X) (y : X) → filter_map h (xs ++ y ∷ []) ≡ filter_map h xs ++ option_to_list (h y)
filter_map-last h xs y = filter_map-append h xs (y ∷ []) ∙ ap (λ more. filter_map h xs ++ more) (cons_option-nil (h y))

append-none : {X Y : Type 0} (h : X → Option Y) (xs : List X) (y : X) → h y ≡ None → filter_map h (xs ++ y ∷ []) ≡ filter_map h xs
append-none h xs y e = filter_map-last h xs y ∙ rw e (append-nil (filter_map h xs))

-- a frame of which a lane is told nothing
pub lane_unchanged : (lane : Lane) (link : VirtualLink) (earlier : List Judged) (j : Judged) →
    ((network : Network) → policed_entry link.id network j ≡ None) →
    ((network : Network) → checked_number link.id network j ≡ None) →
    managed_entry link.id j ≡ None →
    LaneStandsAfter lane link earlier → LaneStandsAfter lane link (earlier ++ j ∷ [])
lane_unchanged lane link earlier j p c m stands = record {
  id = stands.id;
  smax = stands.smax;
  skew = stands.skew;
  integrity = stands.integrity;
  redundancy = stands.redundancy;
  pair = rw (append-none (managed_entry link.id) earlier j m) stands.pair;
  a = side lane.a A stands.a;
  b = side lane.b B stands.b;
}
  where
    side : (s : Side) (network : Network) → SideStandsAfter s link network earlier → SideStandsAfter s link network (earlier ++ j ∷ [])
    side s network before = record {
      account = rw (append-none (policed_entry link.id network) earlier j (p network)) before.account;
      check = rw (append-none (checked_number link.id network) earlier j (c network)) before.check;
    }

none_either : {X : Type 0} (x : Option X) (b : Bool) → cond b x x ≡ x
none_either x true = refl
none_either x false = refl

-- a frame that no judgement sees
pub lane_after_stopped : (lane : Lane) (link : VirtualLink) (earlier : List Judged) (frame : Frame) (class : Class) →
    LaneStandsAfter lane link earlier →
    LaneStandsAfter lane link (earlier ++ record { frame = frame; verdict = stopped_verdict class } ∷ [])
lane_after_stopped lane link earlier frame class stands =
    lane_unchanged lane link earlier (record { frame = frame; verdict = stopped_verdict class })
    (λ network. none_either _ (is_of link.id frame && is_same frame.network network))
    (λ network. none_either _ (is_of link.id frame && is_same frame.network network))
    (none_either _ (is_of link.id frame)) stands

-- a frame of another link
pub lane_after_other : (lane : Lane) (link : VirtualLink) (earlier : List Judged) (j : Judged) → is_of link.id j.frame ≡ false →
    LaneStandsAfter lane link earlier → LaneStandsAfter lane link (earlier ++ j ∷ [])
lane_after_other lane link earlier j other stands =
    lane_unchanged lane link earlier j (λ network. rw other refl) (λ network. rw other refl) (rw other refl) stands

-- a frame of the link on the side's network
side_same : (side : Side) (link : VirtualLink) (network : Network) (earlier : List Judged) (j : Judged) →
    is_of link.id j.frame ≡ true → is_same j.frame.network network ≡ true →
    account.StandsAfter side.account link (policed_entries link.id network earlier
    ++ option_to_list (option_map (λ verdict. record { stamp = j.frame.stamp; size = size_of j.frame; policing = verdict }) j.verdict.policing)) →
    check.StandsAfter side.check (checked_numbers link.id network earlier
    ++ option_to_list (option_map (λ _. sequence_number j.frame) j.verdict.integrity)) →
    SideStandsAfter side link network (earlier ++ j ∷ [])
side_same side link network earlier j of same account_stands check_stands = record {
  account = rw (filter_map-last (policed_entry link.id network) earlier j) (rw (of, same) account_stands);
  check = rw (filter_map-last (checked_number link.id network) earlier j) (rw (of, same) check_stands);
}

none_other : {X : Type 0} (x : Option X) (a b : Bool) → b ≡ false → cond (a && b) x None ≡ None
none_other x true b e = rw e refl
none_other x false b e = refl

-- a frame on the other network
side_other : (side : Side) (link : VirtualLink) (network : Network) (earlier : List Judged) (j : Judged) →
    is_same j.frame.network network ≡ false → SideStandsAfter side link network earlier → SideStandsAfter side link network (earlier ++ j ∷ [])
side_other side link network earlier j other stands = record {
  account = rw (append-none (policed_entry link.id network) earlier j (none_other _ (is_of link.id j.frame) _ other)) stands.account;
  check = rw (append-none (checked_number link.id network) earlier j (none_other _ (is_of link.id j.frame) _ other)) stands.check;
}

-- a frame on network A
pub lane_after_a : (old new : Lane) (link : VirtualLink) (earlier : List Judged) (j : Judged) → is_of link.id j.frame ≡ true →
    j.frame.network ≡ A → LaneStandsAfter old link earlier →
    new.id ≡ old.id → new.smax ≡ old.smax → new.skew ≡ old.skew → new.integrity ≡ old.integrity → new.redundancy ≡ old.redundancy →
    new.b ≡ old.b →
    account.StandsAfter new.a.account link (policed_entries link.id A earlier
    ++ option_to_list (option_map (λ verdict. record { stamp = j.frame.stamp; size = size_of j.frame; policing = verdict }) j.verdict.policing)) →
    check.StandsAfter new.a.check (checked_numbers link.id A earlier
    ++ option_to_list (option_map (λ _. sequence_number j.frame) j.verdict.integrity)) →
    deliveries.StandsAfter new.pair (managed_entries link.id earlier ++ option_to_list (option_map (λ verdict. record {
      network = j.frame.network;
      number = sequence_number j.frame;
      stamp = j.frame.stamp;
      redundancy = verdict;
    }) j.verdict.redundancy)) →
    LaneStandsAfter new link (earlier ++ j ∷ [])
lane_after_a old new link earlier j of on stands id smax skew integrity redundancy other account_stands check_stands pair_stands = record {
  id = id ∙ stands.id;
  smax = smax ∙ stands.smax;
  skew = skew ∙ stands.skew;
  integrity = integrity ∙ stands.integrity;
  redundancy = redundancy ∙ stands.redundancy;
  pair = rw (filter_map-last (managed_entry link.id) earlier j) (rw of pair_stands);
  a = side_same new.a link A earlier j of (ap (λ (n : Network). is_same n A) on) account_stands check_stands;
  b = side_other new.b link B earlier j (ap (λ (n : Network). is_same n B) on)
      (subst (λ (s : Side). SideStandsAfter s link B earlier) (sym other) stands.b);
}

-- a frame on network B
pub lane_after_b : (old new : Lane) (link : VirtualLink) (earlier : List Judged) (j : Judged) → is_of link.id j.frame ≡ true →
    j.frame.network ≡ B → LaneStandsAfter old link earlier →
    new.id ≡ old.id → new.smax ≡ old.smax → new.skew ≡ old.skew → new.integrity ≡ old.integrity → new.redundancy ≡ old.redundancy →
    new.a ≡ old.a →
    account.StandsAfter new.b.account link (policed_entries link.id B earlier
    ++ option_to_list (option_map (λ verdict. record { stamp = j.frame.stamp; size = size_of j.frame; policing = verdict }) j.verdict.policing)) →
    check.StandsAfter new.b.check (checked_numbers link.id B earlier
    ++ option_to_list (option_map (λ _. sequence_number j.frame) j.verdict.integrity)) →
    deliveries.StandsAfter new.pair (managed_entries link.id earlier ++ option_to_list (option_map (λ verdict. record {
      network = j.frame.network;
      number = sequence_number j.frame;
      stamp = j.frame.stamp;
      redundancy = verdict;
    }) j.verdict.redundancy)) →
    LaneStandsAfter new link (earlier ++ j ∷ [])
lane_after_b old new link earlier j of on stands id smax skew integrity redundancy other account_stands check_stands pair_stands = record {
  id = id ∙ stands.id;
  smax = smax ∙ stands.smax;
  skew = skew ∙ stands.skew;
  integrity = integrity ∙ stands.integrity;
  redundancy = redundancy ∙ stands.redundancy;
  pair = rw (filter_map-last (managed_entry link.id) earlier j) (rw of pair_stands);
  a = side_other new.a link A earlier j (ap (λ (n : Network). is_same n A) on)
      (subst (λ (s : Side). SideStandsAfter s link A earlier) (sym other) stands.a);
  b = side_same new.b link B earlier j of (ap (λ (n : Network). is_same n B) on) account_stands check_stands;
}
