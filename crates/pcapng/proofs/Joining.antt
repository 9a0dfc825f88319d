-- Bytes that were appended one after another.
use Rattle.std.proofs.Common.{◌≡◌, ℕ, List, ◌++◌, append_assoc, ap, ◌∙◌}

pub joined_two : (old first second mid now : List ℕ) → mid ≡ old ++ first → now ≡ mid ++ second → now ≡ old ++ (first ++ second)
joined_two old first second mid now e f = f ∙ ap (λ (x : List ℕ). x ++ second) e ∙ append_assoc old first second

pub joined_three : (old first second third one two now : List ℕ) → one ≡ old ++ first → two ≡ one ++ second → now ≡ two ++ third
    → now ≡ old ++ (first ++ (second ++ third))
joined_three old first second third one two now e f g =
    joined_two old first (second ++ third) one now e (joined_two one second third two now f g)

pub joined_four : (old first second third fourth one two three now : List ℕ) → one ≡ old ++ first → two ≡ one ++ second → three ≡ two ++ third
    → now ≡ three ++ fourth → now ≡ old ++ (first ++ (second ++ (third ++ fourth)))
joined_four old first second third fourth one two three now e f g h =
    joined_two old first (second ++ (third ++ fourth)) one now e (joined_three one second third fourth two three now f g h)
