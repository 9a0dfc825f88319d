-- The frames of a recording that is read whole.
use Rattle.std.proofs.Common.{◌≡◌, ◌∙◌, ℕ, ◌≤◌, List, [], ◌∷◌, ◌++◌, Option, Result, Ok, Err, sym, subst, ap, arith}
use Rattle.std.specs.Prelude.{IfOk}
use Rattle.afdx_frame.specs.Frame.{Frame}
use Rattle.afdx_frame.specs.declared.key.Network.TheVariants as networks
use Rattle.pcap_io.specs.Position.{Opens, Reading, Reads, TakesFrame, after_frame, start_at}
use Rattle.pcap_io.specs.declared.position.Position.{Position}
use Rattle.pcap_io.specs.declared.recording.Ending.{Ending}
use Rattle.pcap_io.proofs.Parse.{reads_more}
use Rattle.run_fault.specs.Recording.{LeavesUnread}
use Rattle.run_fault.specs.Recording.{HasReadTap, most_frames}
use Rattle.run_fault.specs.Device.{SourceView}
use Rattle.filter_run.specs.WholeTap.{Gives, GivesAll, IsTap}
use Rattle.pcap_io.specs.Told.{StaysTold}
use Rattle.run_fault.proofs.Recording.{complete, tells_opened}

-- one frame more
pub gives_more : (old : Reading) (frames all : List Frame) (q q' : Position) (left after : Option (List ℕ)) (f : Frame) → Gives old frames q left →
    TakesFrame q left after f → q' ≡ after_frame q f.stamp → all ≡ frames ++ f ∷ [] → Gives old all q' after
gives_more old frames all q q' left after f gives taken moved same =
    subst (λ (p : Position). Gives old all p after) (sym moved)
    (subst (λ (fs : List Frame). Gives old fs (after_frame q f.stamp) after) (sym same) (record {
      reads = reads_more old.position q old.remaining left after frames f gives.reads taken;
      bounded = omega (arith, taken.bounded);
      same_most = gives.same_most;
    }))

has_read : (late : ℕ) (before : SourceView) (old : Reading) (frames : List Frame) (q : Position) (left : Option (List ℕ)) →
    old.position ≡ start_at networks.A old.position.layout most_frames late → Opens before.told before.remaining old.remaining old.position.layout → Gives old frames q left →
    HasReadTap networks.A late before.told before.remaining frames q left
has_read late before old frames q left start opens gives = record {
  layout = old.position.layout;
  opened = old.remaining;
  opens = opens;
  reads = subst (λ (p : Position). Reads p old.remaining frames q left) start gives.reads;
  bounded = within q.count q.most old.position.most gives.bounded gives.same_most (ap (λ (p : Position). p.most) start);
}
  where
    within : (n most first : ℕ) → n ≤ most → most ≡ first → first ≡ most_frames → n ≤ most_frames
    within n most first less same e = subst (λ k. n ≤ k) (same ∙ e) less

pub whole_tap : (late : ℕ) (before after : SourceView) (old new : Reading) (frames : List Frame) (ending : Ending) (unread : List ℕ) →
    old.position ≡ start_at networks.A old.position.layout most_frames late → Opens before.told before.remaining old.remaining old.position.layout → StaysTold before.remaining before.told old.told → old.failures ≡ before.failures →
    LeavesUnread unread new.remaining after.remaining → after.failures ≡ new.failures → GivesAll old new frames ending → IsTap late before after frames ending
unfolding has_read
whole_tap late before after old new frames ending unread start opens tells same leaves same' all =
    let read = has_read late before old frames all.position all.left start opens all.gives in
    record {
      part = record {
        position = all.position;
        left = all.left;
        rest = new.remaining;
        ahead = unread;
        read = read;
        gone = all.ends.gone;
        unread = leaves;
      };
      complete = complete networks.A late before.told all.told before.remaining old.remaining all.left old.position.layout frames all.position ending opens read.reads
          (tells_opened old.position before.told old.told all.told before.remaining old.remaining old.position.layout opens tells all.tells) all.ends.here;
      taken = all.ends.left;
      no_failure = same' ∙ all.no_failure ∙ same;
    }

pub whole_told : {F E : Type 0} (late : ℕ) (frames_of : F → List Frame) (ending_of : F → Ending) (r : Result F E) (before after : SourceView) (old new : Reading) (unread : List ℕ) →
    old.position ≡ start_at networks.A old.position.layout most_frames late → Opens before.told before.remaining old.remaining old.position.layout → StaysTold before.remaining before.told old.told → old.failures ≡ before.failures →
    LeavesUnread unread new.remaining after.remaining → after.failures ≡ new.failures → IfOk r (λ tap. GivesAll old new (frames_of tap) (ending_of tap)) →
    IfOk r (λ tap. IsTap late before after (frames_of tap) (ending_of tap))
whole_told late frames_of ending_of (Ok tap) before after old new unread start opens tells same leaves same' all =
    whole_tap late before after old new (frames_of tap) (ending_of tap) unread start opens tells same leaves same' all
whole_told late frames_of ending_of (Err e) before after old new unread start opens tells same leaves same' all = tt
