-- Replies that giving passes over.
use Rattle.std.proofs.Common.{◌≡◌, Bool, true, false, not, cond, ◌||◌, List, [], ◌∷◌, ◌++◌, refl, sym, ap, subst, ◌∙◌, arith, true≢false}
use Rattle.std.specs.Prelude.{filter_map, flat_map}
use Rattle.sal_value.specs.declared.value.Value.{Value}
use Rattle.sal_value.specs.Spelling.{is_legal}
use Rattle.sal_mail.specs.declared.message.Reply.{Reply}
use Rattle.sal_mail.specs.declared.message.Reply.TheVariants.{Nobody, Tok, Place, Outside}
use Rattle.sal_source.specs.Table.{TableKey}
use Rattle.sal_source.specs.Configuration.{Waiting}
use Rattle.sal_source.specs.Give.{DueReply, give_to, replies_from, give_one, replies_if_legal, settle_all}
use Rattle.sal_source.proofs.Fuel.{give_first}
use Rattle.sal_pieces.specs.Pieces.{Piece, OwedReply, Thing, ReplyThing, piece_things, things}
use Rattle.sal_pieces.specs.Image.{History, reply_in, waiting_before_replies, image_of}
use Rattle.sal_pieces.specs.Once.{StandOnce}
use Rattle.sal_pieces.specs.Entering.{is_for_nobody_inside, OuterRepliesChangeNothing}
use Rattle.sal_pieces.proofs.Entering.{like_rest}

by_cases : {A : Type 0} (b : Bool) (x y : A) → x ≡ y → cond b x y ≡ y
by_cases true x y e = e
by_cases false x y e = refl

pub passes : (r : Reply) (v : Value) (c : Waiting) → is_for_nobody_inside r || not (is_legal v) ≡ true → give_one (r, v) c ≡ c
passes Nobody v c e = by_cases (is_legal v) c c refl
passes (Outside number) v c e = by_cases (is_legal v) c c refl
passes (Tok owner number) v c e = at (is_legal v) e
  where
    at : (b : Bool) → not b ≡ true → cond b (give_to (Tok owner number) v c) c ≡ c
    at true e = absurd (true≢false (sym e))
    at false e = refl
passes (Place owner join i) v c e = at (is_legal v) e
  where
    at : (b : Bool) → not b ≡ true → cond b (give_to (Place owner join i) v c) c ≡ c
    at true e = absurd (true≢false (sym e))
    at false e = refl

pub gives_none : (r : Reply) (v : Value) (c : Waiting) → is_for_nobody_inside r || not (is_legal v) ≡ true → replies_if_legal (r, v) c ≡ []
gives_none Nobody v c e = by_cases (is_legal v) [] [] refl
gives_none (Outside number) v c e = by_cases (is_legal v) [] [] refl
gives_none (Tok owner number) v c e = by_cases (is_legal v) [] [] refl
gives_none (Place owner join i) v c e = at (is_legal v) e
  where
    at : (b : Bool) → not b ≡ true → cond b (replies_from (Place owner join i) v c) [] ≡ []
    at true e = absurd (true≢false (sym e))
    at false e = refl

passed : (r : Reply) (v : Value) (ks : List Thing) (bound : List TableKey) (w : History) → is_for_nobody_inside r || not (is_legal v) ≡ true → image_of bound (ReplyThing (r, v) ∷ ks) w ≡ image_of bound ks w
unfolding image_of waiting_before_replies
passed r v ks bound w e =
    let c : Waiting = waiting_before_replies ks in
    let rs : List DueReply = filter_map reply_in ks in
    let same : settle_all ((r, v) ∷ rs) c ≡ settle_all rs c = give_first (r, v) rs c ∙ (λ i. settle_all (gives_none r v c e i ++ rs) (passes r v c e i)) in
    λ i. record (image_of bound ks w) { waiting = same i }

pub passed_over : OuterRepliesChangeNothing
unfolding things
passed_over r v rest bound w e =
    let ps : List Piece = OwedReply (r, v) ∷ rest in
    let same : flat_map (piece_things ps) rest ≡ flat_map (piece_things rest) rest = like_rest ps rest (λ key c. omega arith) rest in
    ap (λ ks. image_of bound (ReplyThing (r, v) ∷ ks) w) same ∙ passed r v (flat_map (piece_things rest) rest) bound w e

-- what is left once a reply is taken away stands once
pub passed_once : (g : DueReply) (rest : List Piece) → StandOnce (things (OwedReply g ∷ rest)) → StandOnce (things rest)
unfolding things
passed_once g rest once =
    let ps : List Piece = OwedReply g ∷ rest in
    let same : flat_map (piece_things ps) rest ≡ flat_map (piece_things rest) rest = like_rest ps rest (λ key c. omega arith) rest in
    tail (subst (λ (ts : List Thing). StandOnce (ReplyThing g ∷ ts)) same once)
  where
    tail : {ts : List Thing} → StandOnce (ReplyThing g ∷ ts) → StandOnce ts
    tail h = record {
      actors = λ k. (let u = h.actors k in omega arith);
      messages = λ k. (let u = h.messages k in omega arith);
      joins = λ k. (let u = h.joins k in omega arith);
      creations = λ k. (let u = h.creations k in omega arith);
      replies = λ r some. (let u = h.replies r some in omega arith);
    }
