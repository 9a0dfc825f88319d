-- The outcome of a frame: the first that fits. The outcomes, their order and their words are this project's profile.
use Rattle.std.specs.Prelude.{ℕ, Bool, not, ◌||◌, List, codes, if◌then◌else◌}
use Rattle.transit_run.specs.declared.outcome.Fate.{Fate}
use Rattle.transit_run.specs.declared.outcome.Fate.TheVariants as fate
use Rattle.transit_run.specs.declared.outcome.Origin.{Origin}
use Rattle.transit_run.specs.declared.outcome.Origin.TheVariants as origin
use Rattle.transit_run.specs.declared.outcome.Pair.{Pair}
use Rattle.transit_run.specs.declared.outcome.Pair.TheVariants as pair
use Rattle.transit_run.specs.declared.outcome.Passage.{Passage}

-- a frame that came out with its bytes
abbrev pub fate_of_pair : Passage → Fate
fate_of_pair passage =
    if passage.is_routed_elsewhere then fate.Leak
    else (if passage.is_discarded then fate.Lax
    else (if passage.is_overtaken then fate.Overtaken
    else (if passage.is_slow then fate.Slow
    else fate.Passed)))

-- a frame that didn't come out
abbrev pub fate_of_missing : Passage → Fate
fate_of_missing passage =
    if not passage.is_covered then fate.Open
    else (if passage.is_unrouted then fate.Unrouted
    else (if passage.is_discarded || passage.is_unsure then fate.Refused
    else fate.Dropped))

abbrev pub fate_by_pair : Pair → Passage → Fate
fate_by_pair pair.Alike passage = fate_of_pair passage
fate_by_pair pair.Changed passage = fate.Changed
fate_by_pair pair.Without passage = fate_of_missing passage

-- the fate of a frame that went in
abbrev pub fate_of : Passage → Fate
fate_of passage = if passage.is_cut then fate.Cut else fate_by_pair passage.pair passage

-- the origin of a frame that came out without a partner
abbrev pub origin_of : Bool → Bool → Bool → Bool → Origin
origin_of is_cut is_twice is_covered is_elsewhere =
    if is_cut then origin.Cut
    else (if is_twice then origin.Twice
    else (if not is_covered then origin.Open
    else (if is_elsewhere then origin.Elsewhere
    else origin.New)))

abbrev pub fate_word : Fate → List ℕ
fate_word fate.Cut = codes "-"
fate_word fate.Leak = codes "leak"
fate_word fate.Lax = codes "lax"
fate_word fate.Overtaken = codes "overtaken"
fate_word fate.Slow = codes "slow"
fate_word fate.Passed = codes "passed"
fate_word fate.Changed = codes "changed"
fate_word fate.Open = codes "open"
fate_word fate.Unrouted = codes "unrouted"
fate_word fate.Refused = codes "refused"
fate_word fate.Dropped = codes "dropped"

abbrev pub origin_word : Origin → List ℕ
origin_word origin.Cut = codes "-"
origin_word origin.Twice = codes "twice"
origin_word origin.Open = codes "open"
origin_word origin.Elsewhere = codes "elsewhere"
origin_word origin.New = codes "new"

-- the place of a fate's count
abbrev pub fate_place : Fate → ℕ
fate_place fate.Cut = 0
fate_place fate.Leak = 1
fate_place fate.Lax = 2
fate_place fate.Overtaken = 3
fate_place fate.Slow = 4
fate_place fate.Passed = 5
fate_place fate.Changed = 6
fate_place fate.Open = 7
fate_place fate.Unrouted = 8
fate_place fate.Refused = 9
fate_place fate.Dropped = 10

-- the place of an origin's count
abbrev pub origin_place : Origin → ℕ
origin_place origin.Cut = 0
origin_place origin.Twice = 1
origin_place origin.Open = 2
origin_place origin.Elsewhere = 3
origin_place origin.New = 4
