-- What the code that keeps messages and joins leaves.
use Rattle.std.proofs.Common.{◌≡◌, ℕ, ◌+◌, ◌<◌, Bool, true, false, cond, List, [], ◌∷◌, ◌++◌, length, Some, None, refl, sym, ap, ◌∙◌, arith, append_assoc, length-append, if◌then◌else◌}
use Rattle.std.specs.Prelude.{reverse}
use Rattle.std.proofs.lemmas.List.{reverse-append, length-reverse}
use Rattle.std.specs.FinMap as fm
use Rattle.sal_value.specs.declared.name.Name.{Name}
use Rattle.sal_value.specs.declared.value.Value.{Value}
use Rattle.sal_mail.specs.declared.message.Message.{Message}
use Rattle.sal_mail.specs.declared.message.Join.{Join}
use Rattle.sal_mail.specs.declared.effects.Creation.{Creation}
use Rattle.sal_mail.specs.Message.{with_slot, is_full}
use Rattle.sal_source.specs.Table.{TableKey, Table, write}
use Rattle.sal_source.specs.Keys.{made_key, join_key, name_key, message_key}
use Rattle.sal_source.specs.Configuration.{Waiting}
use Rattle.sal_source.specs.Give.{DueReply, resolve, full_join_reply, give_one, replies_if_legal, answers_if_legal, settle_all, settle_all_answers, join_after_value}
use Rattle.sal_source.specs.Step.{put_message, put_messages, put_join, put_joins, put_creation, put_creations, full_join_replies}
use Rattle.sal_source.specs.code.Changes.{GivesNext, Opens}
use Rattle.sal_mail.specs.Message.{with_reply}
use Rattle.sal_value.specs.Order.{KeysAreInjective}
use Rattle.sal_source.specs.code.Maps.{join_entry_key}
use Rattle.sal_source.specs.Table.{key_eq}
use Rattle.sal_source.proofs.Commute.{write_again, one_falls}
use Rattle.sal_source.proofs.Fuel.{give_first, tell_first}

-- ---- puts, from the last one on

pub put_messages_push : (ms : List Message) (m : Message) (t : Table Message) → put_messages (ms ++ m ∷ []) t ≡ put_messages ms (put_message m t)
put_messages_push [] m t = refl
put_messages_push (n ∷ ms) m t = ap (put_message n) (put_messages_push ms m t)

pub put_creations_push : (maker : Name) (xs : List Creation) (x : Creation) (t : Table (Name × Creation)) → put_creations maker (xs ++ x ∷ []) t ≡ put_creations maker xs (put_creation maker x t)
put_creations_push maker [] x t = refl
put_creations_push maker (y ∷ xs) x t = ap (put_creation maker y) (put_creations_push maker xs x t)

abbrev opened : Name → Join → Table (Name × Join) → Table (Name × Join)
opened maker j t = if is_full j then t else put_join maker j t

put_joins_push : (maker : Name) (js : List Join) (j : Join) (t : Table (Name × Join)) → put_joins maker (js ++ j ∷ []) t ≡ put_joins maker js (opened maker j t)
put_joins_push maker [] j t = refl
put_joins_push maker (k ∷ js) j t = ap (opened maker k) (put_joins_push maker js j t)

arrays_push : (js : List Join) (j : Join) → full_join_replies (js ++ j ∷ []) ≡ full_join_replies js ++ full_join_reply j
arrays_push [] j = append-nil (full_join_reply j)
  where
    append-nil : {A : Type 0} (xs : List A) → xs ++ [] ≡ xs
    append-nil [] = refl
    append-nil (x ∷ xs) = ap (λ l. x ∷ l) (append-nil xs)
arrays_push (k ∷ js) j = ap (λ l. full_join_reply k ++ l) (arrays_push js j) ∙ sym (append_assoc (full_join_reply k) (full_join_replies js) (full_join_reply j))

pub record OpenStep (maker : Name) (js more : List Join) (s s' : Waiting) (left left' : List DueReply) : Type 0 where
  pub same : put_joins maker more s'.joins ≡ put_joins maker js s.joins
  pub messages : s'.messages ≡ s.messages
  pub gives : full_join_replies more ++ reverse left' ≡ full_join_replies js ++ reverse left

pub open_step : (maker : Name) (js more : List Join) (j : Join) (s s' : Waiting) (left left' : List DueReply) → js ≡ more ++ j ∷ [] → Opens maker j s s' left left' → OpenStep maker js more s s' left left'
open_step maker js more j s s' left left' e o = record {
  same = ap (λ (w : Waiting). put_joins maker more w.joins) o.waiting ∙ sym (put_joins_push maker more j s.joins) ∙ ap (λ l. put_joins maker l s.joins) (sym e);
  messages = ap (λ (w : Waiting). w.messages) o.waiting;
  gives = ap (λ l. full_join_replies more ++ l) o.left ∙ sym (append_assoc (full_join_replies more) (full_join_reply j) (reverse left)) ∙ ap (λ l. l ++ reverse left) (sym (arrays_push more j)) ∙ ap (λ l. full_join_replies l ++ reverse left) (sym e);
}

-- ---- giving on

pub record SettleStep (replies left : List DueReply) (s s' : Waiting) (answers answers' : List (ℕ × Value)) : Type 0 where
  pub same : settle_all (reverse left) s' ≡ settle_all (reverse replies) s
  pub told : answers' ++ settle_all_answers (reverse left) s' ≡ answers ++ settle_all_answers (reverse replies) s
  pub smaller : length left + fm.len s'.joins < length replies + fm.len s.joins

pub settle_step : (g : DueReply) (replies rest left : List DueReply) (s s' : Waiting) (answers answers' : List (ℕ × Value)) → replies ≡ rest ++ g ∷ [] → GivesNext g s s' answers answers' rest left → SettleStep replies left s s' answers answers'
settle_step g replies rest left s s' answers answers' e n =
    let turned : reverse replies ≡ g ∷ reverse rest = ap reverse e ∙ reverse-append rest (g ∷ []) in
    let f = one_falls g s in
    let joins : fm.len s'.joins ≡ fm.len (give_one g s).joins = ap (λ (w : Waiting). fm.len w.joins) n.waiting in
    let one : length left ≡ length (replies_if_legal g s) + length rest =
    sym (length-reverse left) ∙ ap length n.left ∙ length-append (replies_if_legal g s) (reverse rest) ∙ ap (λ k. length (replies_if_legal g s) + k) (length-reverse rest) in
    let all : length replies ≡ length rest + 1 = ap length e ∙ length-append rest (g ∷ []) in
    record {
      same = ap (λ l. settle_all l s') n.left ∙ ap (settle_all (replies_if_legal g s ++ reverse rest)) n.waiting ∙ sym (give_first g (reverse rest) s) ∙ ap (λ l. settle_all l s) (sym turned);
      told = ap (λ l. answers' ++ settle_all_answers l s') n.left ∙ ap (λ w. answers' ++ settle_all_answers (replies_if_legal g s ++ reverse rest) w) n.waiting
          ∙ ap (λ l. l ++ settle_all_answers (replies_if_legal g s ++ reverse rest) (give_one g s)) n.answers
          ∙ append_assoc answers (answers_if_legal g) (settle_all_answers (replies_if_legal g s ++ reverse rest) (give_one g s))
          ∙ ap (λ l. answers ++ l) (sym (tell_first g (reverse rest) s))
          ∙ ap (λ l. answers ++ settle_all_answers l s) (sym turned);
      smaller = omega arith;
    }

-- ---- one join

-- it was taken out, a place was filled, and it is open yet
pub filled_again : (t : Table (Name × Join)) (k : TableKey) (maker : Name) (at : ℕ) (v : Value) (j f : Join) → Some (maker, j) ≡ fm.get t k → k ≡ join_key (maker, j) → f ≡ with_slot at v j → is_full f ≡ false →
    put_join maker f (write t k None) ≡ write t k (join_after_value at v (fm.get t k))
filled_again t k maker at v j f got key is none =
    ap (λ q. write (write t k None) q (Some (maker, f))) (ap (λ (x : Join). made_key maker x.number) is ∙ sym key)
    ∙ write_again t k None (Some (maker, f))
    ∙ ap (write t k) (sym (ap (join_after_value at v) (sym got) ∙ ap (λ (x : Join). cond (is_full x) None (Some (maker, x))) (sym is) ∙ ap (λ b. cond b None (Some (maker, f))) none))

-- ---- messages

-- a reply leaves a message's maker and number
pub resolve_keeps : (maker : Name) (number : ℕ) (value : Value) (m : Message) → message_key (resolve maker number value m) ≡ message_key m
resolve_keeps maker number value m = either (key_eq (name_key maker) (name_key m.maker))
  where
    either : (b : Bool) → message_key (cond b (with_reply number value m) m) ≡ message_key m
    either true = refl
    either false = refl

-- a join's number and maker are told by the words of its key
pub words_tell : KeysAreInjective → (a b : ℕ × Name) → join_entry_key a ≡ join_entry_key b → a ≡ b
words_tell tell a b e = λ i. (head_is e i, tell a.1 b.1 (tail_is e) i)
  where
    head_is : {x y : ℕ} {xs ys : List ℕ} → x ∷ xs ≡ y ∷ ys → x ≡ y
    head_is f = cc

    tail_is : {x y : ℕ} {xs ys : List ℕ} → x ∷ xs ≡ y ∷ ys → xs ≡ ys
    tail_is f = cc
