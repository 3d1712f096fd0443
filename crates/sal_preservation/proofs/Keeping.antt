-- Typed expressions keep types.
use Rattle.std.proofs.Common.{◌≡◌, ℕ, false, List, map, Option, Some, None, Ok, refl, sym, ap, subst, ◌∙◌}
use Rattle.sal_value.specs.declared.value.Value.{Value}
use Rattle.sal_ast.specs.declared.program.Behavior.{Behavior}
use Rattle.sal_ast.specs.Members.{behavior_by_name}
use Rattle.sal_ast.specs.Sorts.{Scope}
use Rattle.sal_typing.specs.Numbers.{number_sort, scope_of}
use Rattle.sal_handler.specs.Expressions.{FieldMaker, eval}
use Rattle.sal_handler.specs.Scopes.{variable_of}
use Rattle.sal_handler.proofs.After.{after_is}
use Rattle.sal_handler.proofs.Induction.{IfAny}
use Rattle.sal_preservation.specs.States.{IsOf, AreOf, FieldsOf, params_of, MakesFieldsIfAny}
use Rattle.sal_preservation.specs.Laws.{ExpressionsKeepTypes}
use Rattle.sal_preservation.proofs.Expressions.{Sits, Went}
use Rattle.sal_preservation.proofs.Lookups.{all_keep}
use Rattle.sal_preservation.proofs.Judging as judging

-- what makes fields of every behaviour makes them of those that a name has
abbrev MakesNamed : List Behavior → List Behavior → FieldMaker → Type 0
MakesNamed bs named make = (b : List ℕ) (n : ℕ) → behavior_by_name b named ≡ Some n → (args fs : List Value) → AreOf (params_of bs n) args → make n args ≡ Ok fs → FieldsOf bs n fs

if_any : (bs named : List Behavior) (o : Option FieldMaker) → MakesFieldsIfAny bs o → IfAny (MakesNamed bs named) o
if_any bs named None h = tt
if_any bs named (Some make) h = λ b n is args fs l e. h n args fs l e

pub expressions_keep_types : ExpressionsKeepTypes
expressions_keep_types env mine known e s regular good r old typed v new is =
    let bs : List Behavior = env.behaviors in
    let same : r.behaviors ≡ env.behaviors = ap (λ (z : Scope). z.behaviors) (sym typed.scope) in
    let self : mine ≡ r.mine = ap (λ (z : Scope). z.mine) typed.scope in
    let sits : Sits (FieldsOf env.behaviors) r old = record { locals = typed.state.locals; fields = subst (λ n. FieldsOf env.behaviors n old.fields) self typed.state.fields; actors = typed.state.actors; creations = typed.state.creations } in
    let judged : judging.Judgement env mine known e (scope_of env mine) (number_sort s env.behaviors) = record { minus = false; sort = s; scope = refl; regular = regular; good = good; kind = refl } in
    let all = (all_keep env.behaviors (judging.Judgement env mine known) (judging.SuffixJudgement env mine known) (judging.makes env mine known) (judging.judges env mine known) e (scope_of env mine) (number_sort s env.behaviors) judged).keeps r (if_any env.behaviors r.behaviors r.make typed.makes, same) old typed.scope sits in
    let end = after_is (λ a t. Went (FieldsOf env.behaviors) r old t × IsOf (number_sort s env.behaviors) a) (eval e r old) v new all.holds is in
    let went = end.0 in
    record {
      value = end.1;
      typed = record {
        scope = typed.scope ∙ ap (λ ls. record { behaviors = r.behaviors; mine = r.mine; locals = map variable_of ls }) (sym went.locals);
        makes = typed.makes;
        state = record { locals = went.sits.locals; fields = subst (λ n. FieldsOf env.behaviors n new.fields) (sym self) went.sits.fields; actors = went.sits.actors; creations = went.sits.creations };
      };
      locals = went.locals;
      fields = went.fields;
      messages = went.messages;
      joins = went.joins;
    }
