-- What giving does to open joins where no messages wait.
use Rattle.std.proofs.Common.{◌≡◌, ℕ, Bool, true, false, cond, List, [], ◌∷◌, ◌++◌, Some, None, refl, sym, ap, ◌∙◌, append-nil}
use Rattle.std.specs.Option.{option_map}
use Rattle.std.specs.FinMap as fm
use Rattle.sal_value.specs.declared.name.Name.{Name}
use Rattle.sal_value.specs.declared.value.Value.{Value}
use Rattle.sal_value.specs.Spelling.{is_legal}
use Rattle.sal_value.specs.Table.{TableKey, Table, key_cmp, key_eq, table_map, write}
use Rattle.sal_value.proofs.Tables.{same_words, same_table, get-write, get-map}
use Rattle.sal_mail.specs.declared.message.Reply.{Reply}
use Rattle.sal_mail.specs.declared.message.Reply.TheVariants.{Tok}
use Rattle.sal_mail.specs.declared.message.Message.{Message}
use Rattle.sal_mail.specs.declared.message.Join.{Join}
use Rattle.sal_source.specs.Keys.{join_key}
use Rattle.sal_source.specs.Configuration.{Waiting}
use Rattle.sal_source.specs.Give.{resolve, join_after_value, give_one, replies_if_legal, answers_if_legal}
use Rattle.sal_source.specs.code.Changes.{GivesOne}
use Rattle.sal_pieces.specs.Steps.{with_opened}
use Rattle.sal_lists.specs.code.Settling.{Joins, waiting_on}

-- nothing is taken out where nothing is
unwritten : {X : Type 0} (t : Table X) (k : TableKey) → None ≡ fm.get t k → t ≡ write t k None
unwritten t k none = same_table t (write t k None) (λ q. at q (key_eq q k) refl ∙ sym (get-write t k None q))
  where
    at : (q : TableKey) (b : Bool) → key_eq q k ≡ b → fm.get t q ≡ cond b None (fm.get t q)
    at q true is = ap (fm.get t) (same_words q k is) ∙ sym none
    at q false is = refl

-- no join is filled where there is none
pub none_filled : (js : Joins) (k : TableKey) (at : ℕ) (v : Value) → None ≡ fm.get js k → js ≡ write js k (join_after_value at v (fm.get js k))
none_filled js k at v none = unwritten js k none ∙ ap (λ o. write js k (join_after_value at v o)) none

-- no message is changed where none waits
mapped_none : {X Y : Type 0} (f : X → Y) → fm.empty ≡ table_map f (fm.empty {R = key_cmp})
mapped_none f = same_table fm.empty (table_map f fm.empty) (λ q. fm.get-empty key_cmp q ∙ ap (option_map f) (sym (fm.get-empty key_cmp q)) ∙ sym (get-map f fm.empty q))

-- a token's reply gives nothing on
pub token_given : (r : Reply) (v : Value) (maker : Name) (number : ℕ) (js : Joins) (answers : List (ℕ × Value)) → r ≡ Tok maker number → GivesOne (r, v) (waiting_on js) (waiting_on js) answers answers []
token_given r v maker number js answers is = record {
  waiting = waits (is_legal v) ∙ ap (λ s. give_one (s, v) (waiting_on js)) (sym is);
  answers = sym (ap (λ l. answers ++ l) (ap (λ s. answers_if_legal (s, v)) is ∙ none (is_legal v)) ∙ append-nil answers);
  gives = sym (ap (λ s. replies_if_legal (s, v) (waiting_on js)) is ∙ none (is_legal v));
}
  where
    none : {A : Type 0} (b : Bool) → cond {A = List A} b [] [] ≡ []
    none true = refl
    none false = refl

    waits : (b : Bool) → waiting_on js ≡ cond {A = Waiting} b (record { messages = table_map (resolve maker number v) fm.empty; joins = js }) (waiting_on js)
    waits true = ap (λ (t : Table Message). record { messages = t; joins = js }) (mapped_none (resolve maker number v))
    waits false = refl

-- ---- joins that a step opened

-- the last of them
pub with_last : (opened : List (Name × Join)) (j : Name × Join) (t : Joins) → with_opened (opened ++ j ∷ []) t ≡ with_opened opened (write t (join_key j) (Some j))
with_last [] j t = refl
with_last (i ∷ opened) j t = ap (λ u. write u (join_key i) (Some i)) (with_last opened j t)
