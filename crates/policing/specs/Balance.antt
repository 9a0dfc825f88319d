-- The knowledge of an account after a list of frames (ARINC 664 P7).
use Rattle.std.specs.Prelude.{◌≡◌, ℕ, ◌+◌, ◌-◌, ◌*◌, ◌≤◌, ◌⊎◌, min, List, [], ◌∷◌, Option, Some, None, unwrap_or}
use Rattle.vl_config.specs.Link.{VirtualLink}
use Rattle.policing.specs.Windows.{Entry, cap_of, credit, charges}

-- an account: the parameters of its link, what it held after the last frame, and that frame's timestamp
pub record Balance : Type 0 where
  pub smax : ℕ
  pub bag : ℕ
  pub cap : ℕ
  pub content : ℕ
  pub last : Option ℕ

-- the content of an account at a moment, with the credit since the last frame
abbrev pub content_since : Option ℕ → ℕ → ℕ → ℕ → ℕ → ℕ
content_since None smax cap content stamp = content
content_since (Some last) smax cap content stamp = min cap (content + smax * (stamp - last))

abbrev pub content_at : Balance → ℕ → ℕ
content_at balance stamp = content_since balance.last balance.smax balance.cap balance.content stamp

-- the timestamp of the last frame
abbrev pub last_after : Option ℕ → List Entry → Option ℕ
last_after last [] = last
last_after last (entry ∷ entries) = last_after (Some entry.stamp) entries

-- no frame came after the moment
abbrev pub NoneAfter : ℕ → List Entry → Type 0
NoneAfter now [] = Unit {0}
NoneAfter now (entry ∷ entries) = (entry.stamp ≤ now) × NoneAfter now entries

-- Each window from a frame up to now, and the empty one, has this much room left.
abbrev pub FitsEach : VirtualLink → ℕ → List Entry → ℕ → Type 0
FitsEach link now [] content = content ≤ cap_of link
FitsEach link now (entry ∷ entries) content =
    (content + charges link (entry ∷ entries) ≤ cap_of link + credit link (now - entry.stamp)) × FitsEach link now entries content

-- One of these windows has no more room left than this.
abbrev pub FillsOne : VirtualLink → ℕ → List Entry → ℕ → Type 0
FillsOne link now [] content = content ≡ cap_of link
FillsOne link now (entry ∷ entries) content =
    (content + charges link (entry ∷ entries) ≡ cap_of link + credit link (now - entry.stamp)) ⊎ FillsOne link now entries content

-- An account stands so after these frames: it knows the last timestamp, and the least room that a window up to then has left.
pub record StandsAfter (balance : Balance) (link : VirtualLink) (entries : List Entry) : Type 0 where
  pub smax : balance.smax ≡ link.smax
  pub bag : balance.bag ≡ link.bag
  pub cap : balance.cap ≡ cap_of link
  pub last : balance.last ≡ last_after None entries
  pub in_order : NoneAfter (unwrap_or balance.last 0) entries
  pub fits_each : FitsEach link (unwrap_or balance.last 0) entries balance.content
  pub fills_one : FillsOne link (unwrap_or balance.last 0) entries balance.content
