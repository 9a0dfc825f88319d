-- The effect of steps on what is given.
use Rattle.std.proofs.Common.{◌≡◌, ℕ, ◌+◌, ◌<◌, ◌≤◌, true, List, [], ◌∷◌, ◌++◌, length, take, drop, Option, Some, None, Result, Ok, Err, IfOk, OnErr, refl, sym, ap, ◌∙◌, subst, arith}
use Rattle.std.proofs.lemmas.List.{append-nil, length-append, length-take-le}
use borrow.Rule.Slice.PartMut.{put_mid, post_of}
use Rattle.pcap_io.proofs.Transfers.{fill_more, stays_consumed}
use Rattle.std.specs.Io.KnownBytes.{Consumes, IsAtEnd, Keeps, ReadConsumes, prepend_known}
use Rattle.std.proofs.KnownBytes.{Consumes-kept}
use Rattle.pcap_io.specs.declared.layout.HeaderFault.{HeaderFault}
use Rattle.pcap_io.specs.declared.layout.HeaderFault.TheVariants.{Short}
use Rattle.pcap_io.specs.declared.layout.Layout.{Layout}
use Rattle.pcap_io.specs.declared.recording.Ending.{Ending}
use Rattle.pcap_io.specs.declared.recording.Ending.TheVariants.{Clean}
use Rattle.pcap_io.specs.declared.told.Told.{Told}
use Rattle.pcap_io.specs.declared.told.Told.TheVariants as tolds
use Rattle.pcap_io.specs.Bytes.{known_bytes}
use Rattle.pcap_io.specs.Told.{StaysTold, Tells}
use Rattle.pcap_io.specs.declared.device.DeviceFault.{DeviceFault}
use Rattle.pcap_io.proofs.Bytes.{known_bytes-consumed, known_bytes-end, known_bytes-kept}
use Rattle.pcapng.proofs.Handed.{keeps_after, stays_known}
use Rattle.pcapng.specs.Given.{Given, followed, only, plain}
use Rattle.pcapng.specs.Handed.{KeepsGiven, bytes_in, told_in}
use Rattle.recording_files.specs.Given.{file_header_of, given_as, given_at, given_body, given_end, given_next, header_text, no_header}
use Rattle.recording_files.specs.Handed.{ConsumesGiven, body_of, is_over, known_at, known_of, pending_of, remaining_of, rest_of, told_at}
use Rattle.recording_files.specs.Input.{ReadsHeader, ReadsStart, StartGives, left_of, tells_of}
use Rattle.recording_files.specs.Supply.{GivesNext, KeepsFiles}
use Rattle.recording_files.specs.declared.joined.JoinedSource.{JoinedSource}
use Rattle.recording_files.specs.declared.stage.Packet.{Packet}
use Rattle.recording_files.specs.declared.stage.WhichFile.{WhichFile}
use Rattle.recording_files.specs.declared.stage.WhichFile.TheVariants.{First, Next}
use Rattle.recording_files.specs.declared.stage.FilesStage.{FilesStage}
use Rattle.recording_files.specs.declared.stage.FilesStage.TheVariants as stages
use Rattle.recording_files.specs.Run.{IsGivenLayout, IsRun}
use Rattle.recording_files.proofs.Given.{follow_both, follow_none, given_part, given_whole, with_bytes}
use Rattle.recording_files.proofs.Runs.{run_given}

-- nothing is left of the bytes of a packet that isn't given
pub none_given : (s t : FilesStage) (text drawn : List ℕ) → s ≡ t → body_of t drawn ≡ [] → text ++ body_of s drawn ≡ text
none_given s t text drawn e none = ap (λ (b : List ℕ). text ++ b) (ap (λ (x : FilesStage). body_of x drawn) e ∙ none) ∙ append-nil text

pub none_first : (xs ys : List ℕ) → xs ++ ys ≡ [] → xs ≡ []
none_first [] ys e = refl
none_first (x ∷ xs) ys e = cc

-- ---- all that is known

keeps_equal : (x y : Given) → y ≡ x → KeepsGiven (Some x) (Some y)
keeps_equal x y e = (ap (λ (g : Given). g.bytes) e, ap (λ (g : Given). g.told) e)

consumes_equal : (x y : Given) (front : List ℕ) → x ≡ followed front y → ConsumesGiven (Some x) (Some y) front
consumes_equal x y front e = (ap (λ (g : Given). g.bytes) e, sym (ap (λ (g : Given). g.told) e))

-- ---- a device that fails

-- the rest of the file stays
pub keeps_left : (p q : List ℕ) (s : FilesStage) (t u : Told) (l m : Option (List ℕ)) (f : Option (List Given)) → q ≡ p → Keeps l m → StaysTold l t u
    → KeepsGiven (known_at p s t l f) (known_at q s u m f)
keeps_left p q s t u None m f e h stays = (tt, tt)
keeps_left p q s t u (Some x) None f e h stays = absurd h
keeps_left p q s t u (Some x) (Some y) None e h stays = (tt, tt)
keeps_left p q s t u (Some x) (Some y) (Some fs) e h stays =
    keeps_equal _ _
    (ap (λ (b : List ℕ). followed b (rest_of s (with_bytes u y) fs)) e
    ∙ (ap (λ (b : List ℕ). followed p (rest_of s (with_bytes u b) fs)) h ∙ ap (λ (v : Told). followed p (rest_of s (with_bytes v x) fs)) stays))

-- the files that are to come stay
pub keeps_files : (p q : List ℕ) (s : FilesStage) (t u : Told) (l : Option (List ℕ)) (f g : Option (List Given)) → q ≡ p → u ≡ t → KeepsFiles f g
    → KeepsGiven (known_at p s t l f) (known_at q s u l g)
keeps_files p q s t u None f g e same h = (tt, tt)
keeps_files p q s t u (Some x) None g e same h = (tt, tt)
keeps_files p q s t u (Some x) (Some fs) None e same h = absurd h
keeps_files p q s t u (Some x) (Some fs) (Some gs) e same h =
    keeps_equal _ _
    (ap (λ (b : List ℕ). followed b (rest_of s (with_bytes u x) gs)) e
    ∙ (ap (λ (b : List Given). followed p (rest_of s (with_bytes u x) b)) h ∙ ap (λ (v : Told). followed p (rest_of s (with_bytes v x) fs)) same))

-- ---- files

pub opens : {F : Type 0} (remaining : F → Option (List ℕ)) (told : F → Told) (file : F) (place : WhichFile) (p q : List ℕ) (s : FilesStage) (t u : Told)
    (l m : Option (List ℕ)) (f g : Option (List Given)) → s ≡ stages.File place → m ≡ remaining file → u ≡ told file → GivesNext remaining told f g (Some file) → p ≡ [] → q ≡ []
    → KeepsGiven (known_at p s t l f) (known_at q (stages.FileHeader place) u m g)
opens remaining told file place p q s t u None m f g a here tells came e d = (tt, tt)
opens remaining told file place p q s t u (Some x) m None g a here tells came e d = (tt, tt)
opens remaining told file place p q s t u (Some x) m (Some fs) None a here tells came e d = absurd came
opens remaining told file place p q s t u (Some x) m (Some []) (Some gs) a here tells came e d = absurd came
opens remaining told file First p q s t u (Some x) m (Some (y ∷ ys)) (Some gs) a here tells (bytes, value, rest) e d =
    rw (here ∙ bytes, tells ∙ value, rest, e, d, a) (refl, refl)
opens remaining told file Next p q s t u (Some x) m (Some (y ∷ ys)) (Some gs) a here tells (bytes, value, rest) e d =
    rw (here ∙ bytes, tells ∙ value, rest, e, d, a) (refl, refl)

-- there is no file at all
pub opens_none : {F : Type 0} (remaining : F → Option (List ℕ)) (told : F → Told) (p q : List ℕ) (s : FilesStage) (t u : Told) (l : Option (List ℕ)) (f g : Option (List Given))
    → s ≡ stages.File First → GivesNext remaining told f g None → p ≡ [] → q ≡ []
    → KeepsGiven (known_at p s t l f) (known_at q (stages.Ended (tolds.NoHeader Short)) u l g)
opens_none remaining told p q s t u None f g a came e d = (tt, tt)
opens_none remaining told p q s t u (Some x) None g a came e d = (tt, tt)
opens_none remaining told p q s t u (Some x) (Some fs) None a came e d = absurd came
opens_none remaining told p q s t u (Some x) (Some (y ∷ ys)) (Some gs) a came e d = absurd came
opens_none remaining told p q s t u (Some x) (Some []) (Some gs) a came e d = rw (a, e, d) (refl, refl)

-- there is no further one
pub opens_last : {F : Type 0} (remaining : F → Option (List ℕ)) (told : F → Told) (p q : List ℕ) (s : FilesStage) (t u : Told) (l : Option (List ℕ)) (f g : Option (List Given))
    → s ≡ stages.File Next → GivesNext remaining told f g None → p ≡ [] → q ≡ [] → KeepsGiven (known_at p s t l f) (known_at q (stages.Ended tolds.Nothing) u l g)
opens_last remaining told p q s t u None f g a came e d = (tt, tt)
opens_last remaining told p q s t u (Some x) None g a came e d = (tt, tt)
opens_last remaining told p q s t u (Some x) (Some fs) None a came e d = absurd came
opens_last remaining told p q s t u (Some x) (Some (y ∷ ys)) (Some gs) a came e d = absurd came
opens_last remaining told p q s t u (Some x) (Some []) (Some gs) a came e d = rw (a, e, d) (refl, refl)

pub begins : (place : WhichFile) (layout : Layout) (p q : List ℕ) (s : FilesStage) (t u : Told) (l m : Option (List ℕ)) (f : Option (List Given)) → s ≡ stages.FileHeader place → p ≡ []
    → q ≡ file_header_of place → ReadsHeader t l m (Ok layout) → StaysTold l t u → KeepsGiven (known_at p s t l f) (known_at q (stages.Header layout) u m f)
begins place layout p q s t u None m f a e d read stays = (tt, tt)
begins place layout p q s t u (Some xs) m None a e d read stays = (tt, tt)
begins place layout p q s t u (Some xs) m (Some fs) a e d (read, (ys, here, behind)) stays =
    let next : Given = given_next fs in
    rw (here, a, e)
    (keeps_equal _ _
    (ap (λ (b : List ℕ). followed b (given_at layout u ys next)) d
    ∙ (ap (λ (b : List ℕ). followed (file_header_of place) (given_at layout u b next)) behind
    ∙ (ap (λ (v : Told). followed (file_header_of place) (given_at layout v (drop 24 xs) next)) stays
    ∙ sym (ap (λ (r : Result Layout HeaderFault). given_as place r (with_bytes t xs) next) read)))))

pub begins_wrong : (place : WhichFile) (fault : HeaderFault) (told : Told) (p q : List ℕ) (s : FilesStage) (t u : Told) (l m : Option (List ℕ)) (f : Option (List Given))
    → s ≡ stages.FileHeader place → p ≡ [] → q ≡ [] → told ≡ no_header place fault → ReadsHeader t l m (Err fault)
    → KeepsGiven (known_at p s t l f) (known_at q (stages.Ended told) u m f)
begins_wrong place fault told p q s t u None m f a e d c read = (tt, tt)
begins_wrong place fault told p q s t u (Some xs) m None a e d c read = (tt, tt)
begins_wrong place fault told p q s t u (Some xs) m (Some fs) a e d c (read, (ys, here, behind)) =
    rw (here, a, e, d, c) (keeps_equal _ _ (sym (ap (λ (r : Result Layout HeaderFault). given_as place r (with_bytes t xs) (given_next fs)) read)))

-- ---- packets

-- a packet's header, or how the file ends, is given further on
pub starts : (layout : Layout) (r : Result Packet Ending) (p q : List ℕ) (s to : FilesStage) (t u : Told) (l m : Option (List ℕ)) (f : Option (List Given))
    → s ≡ stages.Header layout → p ≡ [] → ReadsStart layout t l m r → StaysTold l t u
    → ((xs ys : List ℕ) (fs : List Given) → StartGives layout t xs ys r → followed q (rest_of to (with_bytes t ys) fs) ≡ given_at layout t xs (given_next fs))
    → KeepsGiven (known_at p s t l f) (known_at q to u m f)
starts layout r p q s to t u None m f e d read stays h = (tt, tt)
starts layout r p q s to t u (Some xs) m None e d read stays h = (tt, tt)
starts layout r p q s to t u (Some xs) m (Some fs) e d (ys, here, gives) stays h = rw (here, e, d, stays) (keeps_equal _ _ (h xs ys fs gives))

pub starts_packet : (layout : Layout) (packet : Packet) (p q : List ℕ) (s : FilesStage) (t u : Told) (l m : Option (List ℕ)) (f : Option (List Given)) → s ≡ stages.Header layout → p ≡ []
    → q ≡ header_text packet.header → ReadsStart layout t l m (Ok packet) → StaysTold l t u → KeepsGiven (known_at p s t l f) (known_at q (stages.Body packet) u m f)
starts_packet layout packet p q s t u l m f e d c read stays =
    starts layout (Ok packet) p q s (stages.Body packet) t u l m f e d read stays
    (λ xs ys fs h. ap (λ (b : List ℕ). followed b (given_body packet.layout t packet.header ys (given_next fs))) c ∙ sym (h (given_next fs)))

pub starts_clean : (layout : Layout) (n : ℕ) (p q : List ℕ) (s : FilesStage) (t u : Told) (l m : Option (List ℕ)) (f : Option (List Given)) → s ≡ stages.Header layout → p ≡ [] → q ≡ []
    → ReadsStart layout t l m (Err (Clean n)) → StaysTold l t u → KeepsGiven (known_at p s t l f) (known_at q (stages.File Next) u m f)
starts_clean layout n p q s t u l m f e d c read stays =
    starts layout (Err (Clean n)) p q s (stages.File Next) t u l m f e d read stays (λ xs ys fs h. rw c (sym (h (given_next fs))))

-- the file ends in another way, and so does all
pub starts_last : (layout : Layout) (ending : Ending) (told : Told) (p q : List ℕ) (s : FilesStage) (t u : Told) (l m : Option (List ℕ)) (f : Option (List Given)) → s ≡ stages.Header layout
    → p ≡ [] → q ≡ [] → ((next : Given) → only told ≡ given_end (Some ending) (only tolds.Cut) next (only tolds.Nothing)) → ReadsStart layout t l m (Err ending) → StaysTold l t u
    → KeepsGiven (known_at p s t l f) (known_at q (stages.Ended told) u m f)
starts_last layout ending told p q s t u l m f e d c ends read stays =
    starts layout (Err ending) p q s (stages.Ended told) t u l m f e d read stays (λ xs ys fs h. rw c (ends (given_next fs) ∙ sym (h (given_next fs))))

pub bodies : (packet : Packet) (p q : List ℕ) (s : FilesStage) (t u : Told) (l m : Option (List ℕ)) (f : Option (List Given)) (drawn : List ℕ) → s ≡ stages.Body packet → p ≡ []
    → q ≡ drawn → length drawn ≡ packet.header.captured_len → Consumes l m drawn → StaysTold l t u
    → KeepsGiven (known_at p s t l f) (known_at q (stages.Given (Some packet.layout) 0) u m f)
bodies packet p q s t u None m f drawn e d c size gone stays = (tt, tt)
bodies packet p q s t u (Some xs) None f drawn e d c size gone stays = absurd gone
bodies packet p q s t u (Some xs) (Some ys) None drawn e d c size gone stays = (tt, tt)
bodies packet p q s t u (Some xs) (Some ys) (Some fs) drawn e d c size gone stays =
    let next : Given = given_next fs in
    rw (e, d, stays)
    (keeps_equal _ _
    (ap (λ (b : List ℕ). followed b (given_at packet.layout t ys next)) c
    ∙ (sym (given_whole packet.layout t packet.header drawn ys next size) ∙ ap (λ (b : List ℕ). given_body packet.layout t packet.header b next) (sym gone))))

pub bodies_cut : (packet : Packet) (p q : List ℕ) (s : FilesStage) (t u : Told) (l m : Option (List ℕ)) (f : Option (List Given)) (drawn : List ℕ) → s ≡ stages.Body packet → p ≡ []
    → q ≡ drawn → length drawn < packet.header.captured_len → IsAtEnd m → Consumes l m drawn → KeepsGiven (known_at p s t l f) (known_at q (stages.Given None 0) u m f)
bodies_cut packet p q s t u None m f drawn e d c short end gone = (tt, tt)
bodies_cut packet p q s t u (Some xs) None f drawn e d c short end gone = absurd gone
bodies_cut packet p q s t u (Some xs) (Some ys) None drawn e d c short end gone = (tt, tt)
bodies_cut packet p q s t u (Some xs) (Some ys) (Some fs) drawn e d c short end gone =
    let all : xs ≡ drawn = gone ∙ (ap (λ (b : List ℕ). drawn ++ b) end ∙ append-nil drawn) in
    rw (e, d)
    (keeps_equal _ _
    (follow_none q tolds.Nothing
    ∙ (ap plain c
    ∙ (sym (given_part packet.layout t packet.header drawn (given_next fs) short) ∙ ap (λ (b : List ℕ). given_body packet.layout t packet.header b (given_next fs)) (sym all)))))

-- all bytes of a packet are given
pub passes : (layout : Layout) (from : ℕ) (p q : List ℕ) (s : FilesStage) (t : Told) (l : Option (List ℕ)) (f : Option (List Given)) → s ≡ stages.Given (Some layout) from → p ≡ [] → q ≡ []
    → KeepsGiven (known_at p s t l f) (known_at q (stages.Header layout) t l f)
passes layout from p q s t None f e d c = (tt, tt)
passes layout from p q s t (Some xs) None e d c = (tt, tt)
passes layout from p q s t (Some xs) (Some fs) e d c = rw (e, d, c) (refl, refl)

-- all that there are of one that is truncated
pub passes_cut : (from : ℕ) (p q : List ℕ) (s : FilesStage) (t : Told) (l : Option (List ℕ)) (f : Option (List Given)) → s ≡ stages.Given None from → p ≡ [] → q ≡ []
    → KeepsGiven (known_at p s t l f) (known_at q (stages.Ended tolds.Nothing) t l f)
passes_cut from p q s t None f e d c = (tt, tt)
passes_cut from p q s t (Some xs) None e d c = (tt, tt)
passes_cut from p q s t (Some xs) (Some fs) e d c = rw (e, d, c) (refl, refl)

-- a run of packets is given as it stands
pub runs : (layout : Layout) (p q front : List ℕ) (s : FilesStage) (t u : Told) (l m : Option (List ℕ)) (f : Option (List Given)) (frames greatest : ℕ) → s ≡ stages.Header layout → p ≡ []
    → q ≡ [] → IsGivenLayout layout → IsRun layout front frames greatest → Consumes l m front → StaysTold l t u → ConsumesGiven (known_at p s t l f) (known_at q s u m f) front
runs layout p q front s t u None m f frames greatest e d c given run gone stays = (tt, tt)
runs layout p q front s t u (Some xs) m None frames greatest e d c given run gone stays = (tt, tt)
runs layout p q front s t u (Some xs) None (Some fs) frames greatest e d c given run gone stays = absurd gone
runs layout p q front s t u (Some xs) (Some ys) (Some fs) frames greatest e d c given run gone stays =
    let next : Given = given_next fs in
    rw (e, d, c, stays) (consumes_equal _ _ front (ap (λ (b : List ℕ). given_at layout t b next) gone ∙ run_given layout t front frames greatest ys next given run))

-- ---- all that is given

pub gives : (front p q : List ℕ) (s to : FilesStage) (t u : Told) (l m : Option (List ℕ)) (f g : Option (List Given)) → p ≡ front ++ q → m ≡ l → u ≡ t → g ≡ f
    → ((file : Given) (fs : List Given) → rest_of to file fs ≡ rest_of s file fs) → ConsumesGiven (known_at p s t l f) (known_at q to u m g) front
gives front p q s to t u None m f g e same told still h = (tt, tt)
gives front p q s to t u (Some xs) m None g e same told still h = (tt, tt)
gives front p q s to t u (Some xs) m (Some fs) g e same told still h =
    let file : Given = with_bytes t xs in
    rw (same, told, still)
    (consumes_equal _ _ front
    (ap (λ (b : List ℕ). followed b (rest_of s file fs)) e
    ∙ (follow_both front q (rest_of s file fs) ∙ ap (λ (b : Given). followed front (followed q b)) (sym (h file fs)))))

-- nothing follows
over_rest : (s : FilesStage) (file : Given) (fs : List Given) → is_over s ≡ true → rest_of s file fs ≡ only (told_at s)
over_rest (stages.Ended told) file fs e = refl
over_rest s file fs e = cc

pub ends_there : (p : List ℕ) (s : FilesStage) (t : Told) (l : Option (List ℕ)) (f : Option (List Given)) → is_over s ≡ true → p ≡ [] → IsAtEnd (bytes_in (known_at p s t l f))
ends_there p s t None f e d = tt
ends_there p s t (Some xs) None e d = tt
ends_there p s t (Some xs) (Some fs) e d = rw d (ap (λ (g : Given). g.bytes) (over_rest s (with_bytes t xs) fs e))

pub all_given : {P F : Type 0} (remaining : F → Option (List ℕ)) (told : F → Told) (files : P → Option (List Given)) (j : JoinedSource P F) → is_over j.stage ≡ true → pending_of j ≡ []
    → IsAtEnd (remaining_of remaining told files j)
all_given remaining told files j e d =
    known_bytes-end (bytes_in (known_of remaining told files j)) (ends_there (pending_of j) j.stage (tells_of told j.input) (left_of remaining j.input) (files j.supply) e d)

tells_there : (p : List ℕ) (s : FilesStage) (t : Told) (l : Option (List ℕ)) (f : Option (List Given)) → is_over s ≡ true
    → Tells (bytes_in (known_at p s t l f)) (told_at s) (told_in (known_at p s t l f))
tells_there p s t None f e = tt
tells_there p s t (Some xs) None e = tt
tells_there p s t (Some xs) (Some fs) e = sym (ap (λ (g : Given). g.told) (over_rest s (with_bytes t xs) fs e))

pub tells_over : {P F : Type 0} (remaining : F → Option (List ℕ)) (told : F → Told) (files : P → Option (List Given)) (j : JoinedSource P F) → is_over j.stage ≡ true
    → Tells (remaining_of remaining told files j) (told_at j.stage) (told_in (known_of remaining told files j))
tells_over remaining told files j e =
    stays_known (bytes_in (known_of remaining told files j)) _ _
    (tells_there (pending_of j) j.stage (tells_of told j.input) (left_of remaining j.input) (files j.supply) e)

-- ---- the file that is read

-- nothing was read ahead of it
pub none_ahead : (ahead : List ℕ) (r : Option (List ℕ)) → ahead ≡ [] → prepend_known ahead r ≡ r
none_ahead ahead None e = refl
none_ahead ahead (Some xs) e = rw e refl

-- ---- a read

-- bytes put into a buffer stand within it
put_within : (done n k : ℕ) (buf got : List ℕ) → done ≤ length buf → n ≤ length got → done + n ≤ length (put_mid done k buf got)
put_within done n k buf got within fits =
    let front : List ℕ = take done buf in
    let after : List ℕ = post_of done k buf in
    let size : length (put_mid done k buf got) ≡ length front + length (got ++ after) = length-append front (got ++ after) in
    omega (arith, size, length-append got after, length-take-le done buf within, within, fits)

-- a buffer whose prefix stands, and more was given after it
pub fill_once : (a b c : Option Given) (done n k : ℕ) (buf got : List ℕ) → done ≤ length buf → n ≤ length got → ConsumesGiven a b (take done buf) → ConsumesGiven b c (take n got)
    → ConsumesGiven a c (take (done + n) (put_mid done k buf got))
fill_once a b c done n k buf got within fits first second = (
  fill_more (bytes_in a) (bytes_in b) (bytes_in c) done n k buf got within fits first.0 second.0,
  stays_consumed (bytes_in a) (bytes_in b) (told_in a) (told_in b) (told_in c) (take done buf) first.0 first.1 second.1,
)

-- a buffer whose prefix stands, once more was given after it, and then packets
pub fill_twice : (a b c d : Option Given) (done n m k j : ℕ) (buf got more : List ℕ) → done ≤ length buf → n ≤ length got → m ≤ length more
    → ConsumesGiven a b (take done buf) → ConsumesGiven b c (take n got) → ConsumesGiven c d (take m more)
    → ConsumesGiven a d (take (done + n + m) (put_mid (done + n) j (put_mid done k buf got) more))
fill_twice a b c d done n m k j buf got more within fits room first second third =
    fill_once a c d (done + n) m j (put_mid done k buf got) more (put_within done n k buf got within fits) room
    (fill_once a b c done n k buf got within fits first second) third

-- bytes are given, and then the rest stays
pub given_kept : (a b c : Option Given) (front : List ℕ) → ConsumesGiven a b front → KeepsGiven b c → ConsumesGiven a c front
given_kept a b c front gone kept =
    (Consumes-kept (bytes_in a) (bytes_in b) (bytes_in c) front gone.0 kept.0, stays_consumed (bytes_in a) (bytes_in b) (told_in a) (told_in b) (told_in c) front gone.0 gone.1 kept.1)

pub keeps_still : (a : Option Given) → KeepsGiven a a
keeps_still None = (tt, tt)
keeps_still (Some x) = (refl, refl)

-- a fault after bytes is passed over, and one after none is told
pub fault_reads : (a b d e : Option Given) (done : ℕ) (r : Result ℕ DeviceFault) (buf : List ℕ) → ConsumesGiven a b (take done buf) → KeepsGiven b d → e ≡ d
    → IfOk r (λ n. (n ≡ done) × (0 < done)) → OnErr r (done ≡ 0) → ReadConsumes (known_bytes (bytes_in a)) (known_bytes (bytes_in e)) r buf
fault_reads a b d e done (Ok n) buf gone kept same came none =
    let all : Consumes (bytes_in a) (bytes_in d) (take n buf) =
    subst (λ (m : ℕ). Consumes (bytes_in a) (bytes_in d) (take m buf)) (sym came.0) (given_kept a b d (take done buf) gone kept).0 in (
      known_bytes-consumed (bytes_in a) (bytes_in e) (take n buf) (subst (λ (o : Option Given). Consumes (bytes_in a) (bytes_in o) (take n buf)) (sym same) all),
      λ zero room. absurd (omega (arith, zero, came.0, came.1)),
    )
fault_reads a b d e done (Err fault) buf gone kept same came none =
    known_bytes-kept (bytes_in a) (bytes_in e)
    (subst (λ (o : Option Given). Keeps (bytes_in a) (bytes_in o)) (sym same)
    (keeps_after (bytes_in a) (bytes_in b) (bytes_in d) (take done buf) (ap (λ (m : ℕ). take m buf) none) gone.0 kept.0))

-- ---- all that is told

pub told_on : (a b c : Option Given) (front : List ℕ) → ConsumesGiven a b front → StaysTold (bytes_in b) (told_in b) (told_in c) → StaysTold (bytes_in a) (told_in a) (told_in c)
told_on a b c front gone stays = stays_consumed (bytes_in a) (bytes_in b) (told_in a) (told_in b) (told_in c) front gone.0 gone.1 stays

pub told_kept : (a b c : Option Given) → KeepsGiven a b → c ≡ b → StaysTold (bytes_in a) (told_in a) (told_in c)
told_kept a b c kept same = subst (λ (o : Option Given). StaysTold (bytes_in a) (told_in a) (told_in o)) (sym same) kept.1
