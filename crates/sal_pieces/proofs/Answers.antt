-- Answers hang on open joins alone.
use Rattle.std.proofs.Common.{◌≡◌, ℕ, zero, suc, ◌+◌, Bool, true, false, cond, List, [], ◌∷◌, ◌++◌, length, refl, ap, ◌∙◌}
use Rattle.std.specs.FinMap as fm
use Rattle.sal_value.specs.declared.name.Name.{Name}
use Rattle.sal_value.specs.declared.value.Value.{Value}
use Rattle.sal_value.specs.Spelling.{is_legal}
use Rattle.sal_mail.specs.declared.message.Reply.{Reply}
use Rattle.sal_mail.specs.declared.message.Reply.TheVariants.{Nobody, Tok, Place, Outside}
use Rattle.sal_mail.specs.declared.message.Join.{Join}
use Rattle.sal_source.specs.Table.{Table, write}
use Rattle.sal_source.specs.Keys.{made_key}
use Rattle.sal_source.specs.Configuration.{Waiting}
use Rattle.sal_source.specs.Give.{DueReply, join_after_value, join_replies, give_to, replies_from, give_one, replies_if_legal, answers_if_legal, settle, settle_answers}
use Rattle.sal_pieces.specs.Answers.{AnswersNeedJoinsAlone, ThingsOweOnce}
use Rattle.sal_pieces.proofs.Order.{owed_once}

to_same : (r : Reply) (v : Value) (c d : Waiting) → c.joins ≡ d.joins → (give_to r v c).joins ≡ (give_to r v d).joins
to_same Nobody v c d e = e
to_same (Outside number) v c d e = e
to_same (Tok owner number) v c d e = e
to_same (Place owner join at) v c d e = λ i. write (e i) (made_key owner join) (join_after_value at v (fm.get (e i) (made_key owner join)))

on_same : (r : Reply) (v : Value) (c d : Waiting) → c.joins ≡ d.joins → replies_from r v c ≡ replies_from r v d
on_same Nobody v c d e = refl
on_same (Outside number) v c d e = refl
on_same (Tok owner number) v c d e = refl
on_same (Place owner join at) v c d e = λ i. join_replies at v (fm.get (e i) (made_key owner join))

one_same : (g : DueReply) (c d : Waiting) → c.joins ≡ d.joins → (give_one g c).joins ≡ (give_one g d).joins
one_same g c d e = by (is_legal g.1)
  where
    by : (b : Bool) → (cond b (give_to g.0 g.1 c) c).joins ≡ (cond b (give_to g.0 g.1 d) d).joins
    by true = to_same g.0 g.1 c d e
    by false = e

released_same : (g : DueReply) (c d : Waiting) → c.joins ≡ d.joins → replies_if_legal g c ≡ replies_if_legal g d
released_same g c d e = ap (λ gs. cond (is_legal g.1) gs []) (on_same g.0 g.1 c d e)

settle_same : (n : ℕ) (gs : List DueReply) (c d : Waiting) → c.joins ≡ d.joins → (settle n gs c).joins ≡ (settle n gs d).joins
unfolding settle
settle_same zero gs c d e = e
settle_same (suc n) [] c d e = e
settle_same (suc n) (g ∷ gs) c d e =
    ap (λ hs. (settle n (hs ++ gs) (give_one g c)).joins) (released_same g c d e) ∙ settle_same n (replies_if_legal g d ++ gs) (give_one g c) (give_one g d) (one_same g c d e)

told_same : (n : ℕ) (gs : List DueReply) (c d : Waiting) → c.joins ≡ d.joins → settle_answers n gs c ≡ settle_answers n gs d
unfolding settle_answers
told_same zero gs c d e = refl
told_same (suc n) [] c d e = refl
told_same (suc n) (g ∷ gs) c d e =
    ap (λ as_. answers_if_legal g ++ as_)
    (ap (λ hs. settle_answers n (hs ++ gs) (give_one g c)) (released_same g c d e) ∙ told_same n (replies_if_legal g d ++ gs) (give_one g c) (give_one g d) (one_same g c d e))

pub need_joins : AnswersNeedJoinsAlone
need_joins gs c d e = (
  ap (λ (t : Table (Name × Join)). settle_answers (length gs + fm.len t) gs c) e ∙ told_same (length gs + fm.len d.joins) gs c d e,
  ap (λ (t : Table (Name × Join)). (settle (length gs + fm.len t) gs c).joins) e ∙ settle_same (length gs + fm.len d.joins) gs c d e,
)

pub owe_once : ThingsOweOnce
owe_once ts h = owed_once ts h
