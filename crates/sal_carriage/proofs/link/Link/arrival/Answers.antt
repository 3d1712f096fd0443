use Rattle.std.proofs.Common.{◌≡◌, ℕ, true, List, ◌++◌, Option, Some, sym, ap, subst, ◌∙◌, rules}
use Rattle.sal_carriage.specs.declared.datagram.Taken.TheVariants as taken
use Rattle.sal_carriage.specs.Frames.{Frame, frame_of}
use Rattle.sal_carriage.specs.Link.{Link}
use Rattle.sal_carriage.specs.Halves.{CanComplete, complete, completes, newly_acknowledged}
use Rattle.sal_carriage.proofs.Views.{frame_in}
use Rattle.sal_carriage.proofs.Halves.{no_frame, not_completes, arrives, can_complete}
use Rattle.sal_carriage.proofs.link.Link.arrival.Goals as goal

pub returns-in_default : goal.returns-in_default
returns-in_default c = no_frame c.args.bytes.now c.args.self.now (search rules)

pub returns-then-not-completes : goal.returns-then-not-completes
returns-then-not-completes c = not_completes c.args.bytes.now c.in-Some.frame c.args.self.now (search rules) (search rules)

pub returns : goal.returns
returns c =
    let f : Frame = frame_in c.frame.inside in
    let l : Link = c.args.self.now in
    let read : Some c.in-Some.frame ≡ frame_of c.args.bytes.now = search rules in
    let whole : completes c.in-Some.frame l ≡ true = search rules in
    let is : Some f ≡ frame_of c.args.bytes.now = ap (λ (g : Frame). Some g) c.frame.view_is ∙ read in
    let last : completes f l ≡ true = ap (λ (g : Frame). completes g l) c.frame.view_is ∙ whole in
    let bytes : c.in_ok-joined_with.field-0 ≡ l.part ++ f.payload = c.in_ok-joined_with.ensures in
    let count : c.newly_acknowledged.result ≡ newly_acknowledged f.wanted l = c.newly_acknowledged.ensures in
    record {
      taken = arrives c.args.bytes.now f l is last ∙ (λ i. (taken.Envelope (sym bytes i), complete (sym count i) l));
      can = subst (λ n. CanComplete n l) (sym count) (can_complete c.args.bytes.now f l last);
    }
