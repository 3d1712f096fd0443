-- The type that the meaning reads off a typed expression is the checker's.
use Rattle.std.proofs.Common.{◌≡◌, inl, ℕ, ◌≤◌, Bool, true, false, not, ◌&&◌, cond, is_some, nat_le, List, [], ◌∷◌, ◌++◌, length, map, Option, Some, None, option_map, refl, sym, ap, subst, ◌∙◌}
use Rattle.std.specs.Prelude.{slice_get}
use Rattle.std.specs.List.{find}
use Rattle.std.specs.Str.{bytes_eq}
use Rattle.std.proofs.lemmas.Bool.{not-true, leb-true, and_parts}
use Rattle.sal_value.specs.declared.value.Base.{Base as MeantBase}
use Rattle.sal_value.specs.declared.value.Base.TheVariants as meant
use Rattle.sal_value.specs.declared.value.Sort.{Sort as MeantSort}
use Rattle.sal_ast.specs.declared.program.Ident.{Ident}
use Rattle.sal_ast.specs.declared.program.BaseName.{BaseName}
use Rattle.sal_ast.specs.declared.program.BaseName.TheVariants as word
use Rattle.sal_ast.specs.declared.program.TypeName.{TypeName}
use Rattle.sal_ast.specs.declared.program.Behavior.{Behavior}
use Rattle.sal_ast.specs.declared.expression.Op.{Op}
use Rattle.sal_ast.specs.declared.expression.Expr.{Expr}
use Rattle.sal_ast.specs.declared.expression.Suffix.{Suffix}
use Rattle.sal_ast.specs.declared.expression.At.{At}
use Rattle.sal_ast.specs.declared.expression.Operand.{Operand}
use Rattle.sal_ast.specs.declared.expression.Expr.TheViews.{roll-Expr, roll-Suffix, roll-Operand}
use Rattle.sal_ast.specs.declared.expression.Expr.TheOpen.{Expr-F, Suffix-F, Operand-F}
use Rattle.sal_ast.specs.declared.expression.Expr.TheFolds.{fold-Suffix, fold-At, fold-Operand, map-Expr, map-Suffix, map-Operand, fold-roll-Expr, fold-roll-Suffix, fold_out-Operand, ind-Expr}
use Rattle.sal_ast.specs.Members.{Field, valid_number, behavior_by_name}
use Rattle.sal_ast.specs.Sorts as text
use Rattle.sal_ast.specs.Sorts.{Scope, SortInScope, sort_of, name_sort, field_sort, sort_of_local, sort_of_field, own_fields, sort_with, actor_base, type_sort}
use Rattle.sal_ast.specs.Sorts.{Variable as ScopeVariable}
use Rattle.sal_ast.proofs.Closing.{Known}
use Rattle.sal_sorts.specs.declared.sort.Base.TheVariants.{Int, Boolean, Str, Actor, Void, Null}
use Rattle.sal_sorts.specs.declared.sort.Sort.{Sort}
use Rattle.sal_sorts.specs.declared.variable.Variable.{Variable}
use Rattle.sal_sorts.specs.declared.variable.MemberKind.{MemberKind}
use Rattle.sal_sorts.specs.declared.variable.MemberKind.TheVariants as kind
use Rattle.sal_sorts.specs.Sorts.{plain, is_array_sort, is_int_sort, is_boolean_sort, is_text_sort, item_sort, sort_of_type}
use Rattle.sal_sorts.specs.Environments as envs
use Rattle.sal_sorts.specs.Environments.{Environment, behavior_with_name, has_behavior, field_variable, field_with_name, local_with_name, field_in_scope, or_else, variable_with_name, constructor_accepts}
use Rattle.sal_sorts.specs.Expressions as typing
use Rattle.sal_sorts.specs.Expressions.{ExprTyping, SuffixTyping, LocationTyping, OperandTyping, type_rules, type_verdict, is_known_base, unknown_rules, token_rules, variable_verdict, handler_only_rules, operator_rules, operands_fit, operator_sort, level_verdict, index_rules, length_rules, suffix_rules, suffix_sort, suffixes_verdict, verdict_of_exprs, verdict_of_option, location_verdict, new_rules, by_name_rules, array_rules, number_rules, cast_fits, are_all_assignable, expr_verdict, suffix_verdict, at_verdict, operand_verdict}
use Rattle.sal_sorts.specs.Verdicts.{Violation, Verdict, Good, ◌also◌, good_unless, node, fold_nodes}
use Rattle.sal_sorts.proofs.ExpressionEquations.{operand_verdict-Operand}
use Rattle.sal_typing.specs.Numbers.{number_sort, number_variable, scope_of}
use Rattle.sal_typing.specs.Known.{Each, IsThere, IsSortInScope, IsKnownVariable, MembersAreKnown, IsKnown}
use Rattle.sal_typing.specs.Laws.{ExpressionsHaveTheirSorts}
use Rattle.sal_typing.proofs.Inverting.{good_is, some_is, also_parts, node_parts, unless_parts, map_parts, rule_holds, none_right}
use Rattle.sal_typing.proofs.Finding.{no_position, find_in_map, each_found, each_at}
use Rattle.sal_typing.proofs.Numbering.{number_of_type, type_is_value, actor_is_value, stands_at, number_of_known, dims_valid, Agrees, agrees_value, agrees_as, int_agrees, boolean_agrees, text_agrees, actor_agrees, type_agrees, operator_agrees, item_agrees}

-- ---- what a written type means

known_base : (b : BaseName) (env : Environment) → length env.behaviors ≤ 64 → is_known_base b env ≡ true → IsThere (text.base_of b env.behaviors)
known_base word.Int env few h = (meant.Int, refl)
known_base word.Boolean env few h = (meant.Bool, refl)
known_base word.Str env few h = (meant.Str, refl)
known_base (word.Actor name) env few h = let n = number_of_known name env few h in (meant.Actor n.0, ap (option_map meant.Actor) n.1)

known_sort : (o : Option MeantBase) (dims : ℕ) → IsThere o → dims ≤ 8 → IsThere (sort_with o dims)
known_sort o dims h few = (record { base = h.0; dims = dims }, ap (λ q. sort_with q dims) h.1 ∙ dims_valid h.0 dims few)

-- a type that is written in a typed node
pub type_parts : (t : TypeName) (env : Environment) (s : Sort) → length env.behaviors ≤ 64 → type_verdict t env ≡ Good s → (sort_of_type t ≡ s) × IsThere (type_sort t env.behaviors)
unfolding type_verdict type_rules type_sort
type_parts t env s few h =
    let r = unless_parts (type_rules t env) (sort_of_type t) s h in
    let both = and_parts (is_known_base t.base env) (nat_le t.dims 8) (rule_holds 6 t.at (is_known_base t.base env && nat_le t.dims 8) r.0) in
    (r.1, known_sort (text.base_of t.base env.behaviors) t.dims (known_base t.base env few both.0) (leb-true t.dims 8 both.1))

-- ---- names

-- the behaviour of a name is the one with its number
pub behavior_numbered : (name : List ℕ) (n : ℕ) (env : Environment) → length env.behaviors ≤ 64 → behavior_by_name name env.behaviors ≡ Some n → behavior_with_name name env ≡ slice_get env.behaviors n
unfolding behavior_with_name behavior_by_name
behavior_numbered name n env few has = by (behavior_with_name name env) refl
  where
    by : (o : Option Behavior) → behavior_with_name name env ≡ o → find (λ b. bytes_eq b.name.text name) env.behaviors ≡ slice_get env.behaviors n
    by None e =
        let absent : None ≡ Some n = sym (ap valid_number (no_position (λ b. bytes_eq b.name.text name) env.behaviors e)) ∙ has in
        absurd cc
    by (Some b) e =
        let at = stands_at name env b few e in
        let same : at.number ≡ n = some_is at.number n (sym at.is ∙ has) in
        e ∙ sym at.there ∙ ap (slice_get env.behaviors) same

same_fields : (o : Option Behavior) → envs.fields_in o ≡ text.fields_in o
same_fields None = refl
same_fields (Some b) = refl

-- the field of this name, for the checker and for the meaning
field_found : (name : List ℕ) (env : Environment) (mine : ℕ) → IsKnown env mine → (o : Option Field) → find (λ f. bytes_eq f.name name) (own_fields (scope_of env mine)) ≡ o → (field_with_name name env ≡ option_map field_variable o) × (field_sort name (scope_of env mine) ≡ sort_of_field o env.behaviors)
unfolding field_with_name field_sort
field_found name env mine h o e = (
  ap (λ b. option_map field_variable (find (λ (f : Field). bytes_eq f.name name) (envs.fields_in b))) (behavior_numbered env.own mine env h.few h.own)
      ∙ ap (λ fs. option_map field_variable (find (λ (f : Field). bytes_eq f.name name) fs)) (same_fields (slice_get env.behaviors mine))
      ∙ ap (option_map field_variable) e,
  ap (λ q. sort_of_field q env.behaviors) e,
)

fields_known : (env : Environment) (mine : ℕ) → IsKnown env mine → Each (λ (f : Field). IsThere (type_sort f.sort env.behaviors)) (own_fields (scope_of env mine))
fields_known env mine h = by (slice_get env.behaviors mine) refl
  where
    by : (o : Option Behavior) → slice_get env.behaviors mine ≡ o → Each (λ (f : Field). IsThere (type_sort f.sort env.behaviors)) (text.fields_in o)
    by None e = tt
    by (Some b) e = (each_at (MembersAreKnown env.behaviors) env.behaviors mine b h.members e).0

-- what a name stands for, and the type that the text gives it
pub record Stands (behaviors : List Behavior) (v : Variable) (k : Option MeantSort) : Type 0 where
  pub is : k ≡ (number_variable behaviors v).sort
  pub known : IsKnownVariable behaviors v

field_stands : (name : List ℕ) (env : Environment) (mine : ℕ) → IsKnown env mine → (v : Variable) → field_with_name name env ≡ Some v → Stands env.behaviors v (field_sort name (scope_of env mine)) × (v.is_token ≡ false)
field_stands name env mine h v e = by (find (λ f. bytes_eq f.name name) (own_fields (scope_of env mine))) refl
  where
    by : (o : Option Field) → find (λ f. bytes_eq f.name name) (own_fields (scope_of env mine)) ≡ o → Stands env.behaviors v (field_sort name (scope_of env mine)) × (v.is_token ≡ false)
    by None f = let r = field_found name env mine h None f in let absent : None ≡ Some v = sym r.0 ∙ e in absurd cc
    by (Some f) g =
        let r = field_found name env mine h (Some f) g in
        let same : field_variable f ≡ v = some_is (field_variable f) v (sym r.0 ∙ e) in
        let there : IsThere (type_sort f.sort env.behaviors) = each_found (λ (x : Field). IsThere (type_sort x.sort env.behaviors)) (λ (x : Field). bytes_eq x.name name) (own_fields (scope_of env mine)) f (fields_known env mine h) g in
        let here : Stands env.behaviors (field_variable f) (field_sort name (scope_of env mine)) = record { is = r.1 ∙ sym (number_of_type f.sort env.behaviors); known = type_is_value f.sort env.behaviors there } in
        (subst (λ x. Stands env.behaviors x (field_sort name (scope_of env mine))) same here, ap (λ (x : Variable). x.is_token) (sym same))

local_found : (name : List ℕ) (env : Environment) (mine : ℕ) → find (λ v. bytes_eq v.name name) (scope_of env mine).locals ≡ option_map (number_variable env.behaviors) (local_with_name name env)
unfolding local_with_name
local_found name env mine = find_in_map (number_variable env.behaviors) (λ v. bytes_eq v.name name) env.scope

local_stands : (name : List ℕ) (env : Environment) (mine : ℕ) → IsKnown env mine → (v : Variable) → local_with_name name env ≡ Some v → Stands env.behaviors v (name_sort name (scope_of env mine))
unfolding name_sort local_with_name
local_stands name env mine h v e = record {
  is = ap (λ o. sort_of_local o (field_sort name (scope_of env mine))) (local_found name env mine ∙ ap (option_map (number_variable env.behaviors)) e);
  known = each_found (IsKnownVariable env.behaviors) (λ (w : Variable). bytes_eq w.name name) env.scope v h.scope e;
}

hidden_by_none : (name : List ℕ) (env : Environment) (mine : ℕ) → local_with_name name env ≡ None → name_sort name (scope_of env mine) ≡ field_sort name (scope_of env mine)
unfolding name_sort
hidden_by_none name env mine e = ap (λ o. sort_of_local o (field_sort name (scope_of env mine))) (local_found name env mine ∙ ap (option_map (number_variable env.behaviors)) e)

in_member : (k : MemberKind) (name : List ℕ) (env : Environment) (v : Variable) → field_in_scope k name env ≡ Some v → field_with_name name env ≡ Some v
in_member kind.Initialiser name env v e = absurd cc
in_member kind.Constructor name env v e = e
in_member kind.Handler name env v e = e

pub name_stands : (name : List ℕ) (env : Environment) (mine : ℕ) → IsKnown env mine → (v : Variable) → variable_with_name name env ≡ Some v → Stands env.behaviors v (name_sort name (scope_of env mine))
unfolding variable_with_name
name_stands name env mine h v e = by (local_with_name name env) refl e
  where
    by : (o : Option Variable) → local_with_name name env ≡ o → or_else o (field_in_scope env.member name env) ≡ Some v → Stands env.behaviors v (name_sort name (scope_of env mine))
    by None f g = subst (λ k. Stands env.behaviors v k) (sym (hidden_by_none name env mine f)) (field_stands name env mine h v (in_member env.member name env v g)).0
    by (Some w) f g = let same : w ≡ v = some_is w v g in local_stands name env mine h v (f ∙ ap (λ x. Some x) same)

-- of what is no token
value_stands : (behaviors : List Behavior) (v : Variable) (k : Option MeantSort) → Stands behaviors v k → v.is_token ≡ false → Agrees behaviors v.sort k
value_stands behaviors v k h plain_value =
    let known : IsSortInScope v.is_token v.sort behaviors = h.known in
    let here : IsSortInScope false v.sort behaviors = subst (λ b. IsSortInScope b v.sort behaviors) plain_value known in
    agrees_value behaviors v.sort k (h.is ∙ ap (λ b. cond b None (number_sort v.sort behaviors)) plain_value) here

pub variable_parts : (at : ℕ) (o : Option Variable) (s : Sort) → variable_verdict at o ≡ Good s → (v : Variable) × (o ≡ Some v) × (v.is_token ≡ false) × (v.sort ≡ s)
variable_parts at None s h = let r = unless_parts (unknown_rules at) (plain Void) s h in absurd (let x = rule_holds 10 at false r.0 in cc)
variable_parts at (Some v) s h =
    let r = unless_parts (token_rules at (not v.is_token)) v.sort s h in
    (v, refl, not-true v.is_token (rule_holds 11 at (not v.is_token) r.0), r.1)

-- ---- operators, indexes and `.length`

-- whether it is an index, as the meaning's types see it
abbrev is_index : Suffix → Bool
is_index = fold-Suffix SortInScope Bool (Unit {0}) (Op × SortInScope) text.sort_step text.suffix_step text.at_step text.operand_step

-- the operator and the type behind it, as the meaning's types see it
abbrev part_sort : Operand → Op × SortInScope
part_sort = fold-Operand SortInScope Bool (Unit {0}) (Op × SortInScope) text.sort_step text.suffix_step text.at_step text.operand_step

abbrev place_sort : At → Unit {0}
place_sort = fold-At SortInScope Bool (Unit {0}) (Op × SortInScope) text.sort_step text.suffix_step text.at_step text.operand_step

part_is : (p : Operand) → part_sort p ≡ (p.op, sort_of p.value)
unfolding sort_of
part_is p = fold_out-Operand SortInScope Bool (Unit {0}) (Op × SortInScope) text.sort_step text.suffix_step text.at_step text.operand_step p

module _ (env : Environment) (mine : ℕ) (h : IsKnown env mine) where
  abbrev scope : Scope
  scope = scope_of env mine

  -- what the meaning's type of it is, where it is typed
  abbrev pub AgreesHere : Sort → Option MeantSort → Type 0
  AgreesHere = Agrees env.behaviors

  abbrev pub PE : Expr → Type 0
  PE e = (minus : Bool) (s : Sort) → expr_verdict e env minus ≡ Good s → AgreesHere s (sort_of e scope)

  abbrev PS : Suffix → Type 0
  PS x = is_some (suffix_verdict x).1 ≡ is_index x

  abbrev PA : At → Type 0
  PA x = Unit {0}

  abbrev PO : Operand → Type 0
  PO p = PE p.value

  -- ---- levels

  abbrev AgreesIfGood : Verdict Sort → Option MeantSort → Type 0
  AgreesIfGood v k = (s : Sort) → v ≡ Good s → AgreesHere s k

  part_agrees : (v : Verdict Sort) (k : Option MeantSort) (p : Operand) → AgreesIfGood v k → PE p.value
      → AgreesIfGood (node (v also expr_verdict p.value env false) (λ s. operator_rules p.at (operands_fit env p.op s.0 s.1)) (λ s. operator_sort p.op s.0 s.1)) (text.operator_sort p.op k (sort_of p.value scope))
  part_agrees v k p a e s g =
      let n = node_parts (v also expr_verdict p.value env false) (λ s. operator_rules p.at (operands_fit env p.op s.0 s.1)) (λ s. operator_sort p.op s.0 s.1) s g in
      let both = also_parts v (expr_verdict p.value env false) n.part n.typed in
      agrees_as env.behaviors (operator_sort p.op n.part.0 n.part.1) s (text.operator_sort p.op k (sort_of p.value scope)) n.is
      (operator_agrees env p.op n.part.0 n.part.1 k (sort_of p.value scope) (a n.part.0 both.left) (e false n.part.1 both.right) (rule_holds 14 p.at (operands_fit env p.op n.part.0 n.part.1) n.keeps))

  level_agrees : (rest : List (Known Operand PO)) (v : Verdict Sort) (k : Option MeantSort) → AgreesIfGood v k
      → AgreesIfGood (level_verdict v (map operand_verdict (map (λ z. z.0) rest)) env) (text.level_sort k (map part_sort (map (λ z. z.0) rest)) scope)
  level_agrees [] v k a s g = a s g
  level_agrees (p ∷ ps) v k a s g =
      let more = level_agrees ps (node (v also expr_verdict p.0.value env false) (λ s. operator_rules p.0.at (operands_fit env p.0.op s.0 s.1)) (λ s. operator_sort p.0.op s.0 s.1)) (text.operator_sort p.0.op k (sort_of p.0.value scope)) (part_agrees v k p.0 a p.1) s in
      let V : OperandTyping → Type 0 = λ q. fold_nodes (λ (p : OperandTyping). p.2 env false) (λ p s. operator_rules p.1 (operands_fit env p.0 s.0 s.1)) (λ p s. operator_sort p.0 s.0 s.1) (node (v also q.2 env false) (λ s. operator_rules q.1 (operands_fit env q.0 s.0 s.1)) (λ s. operator_sort q.0 s.0 s.1)) (map operand_verdict (map (λ z. z.0) ps)) ≡ Good s in
      let there = subst V (operand_verdict-Operand p.0) g in
      subst (λ (q : Op × SortInScope). AgreesHere s (text.level_sort (text.operator_sort q.0 k (q.1 scope)) (map part_sort (map (λ z. z.0) ps)) scope)) (sym (part_is p.0)) (more there)

  -- ---- suffixes

  length_agrees : (at : ℕ) (v : Verdict Sort) (k : Option MeantSort) → AgreesIfGood v k → AgreesIfGood (node (v also verdict_of_option None env) (suffix_rules (at, None)) (suffix_sort (at, None))) (text.suffix_sort false k)
  length_agrees at v k a s g =
      let n = node_parts (v also verdict_of_option None env) (suffix_rules (at, None)) (suffix_sort (at, None)) s g in
      let both = also_parts v (verdict_of_option None env) n.part n.typed in
      let none : None ≡ n.part.1 = good_is None n.part.1 both.right in
      let is : plain Int ≡ s = ap (λ o. suffix_sort (at, None) (n.part.0, o)) none ∙ n.is in
      agrees_as env.behaviors (plain Int) s (text.suffix_sort false k) is (int_agrees env.behaviors)

  index_agrees : (at : ℕ) (e : ExprTyping) (v : Verdict Sort) (k : Option MeantSort) → AgreesIfGood v k → AgreesIfGood (node (v also verdict_of_option (Some e) env) (suffix_rules (at, Some e)) (suffix_sort (at, Some e))) (text.suffix_sort true k)
  index_agrees at e v k a s g =
      let n = node_parts (v also verdict_of_option (Some e) env) (suffix_rules (at, Some e)) (suffix_sort (at, Some e)) s g in
      let both = also_parts v (verdict_of_option (Some e) env) n.part n.typed in
      let i = map_parts (λ (x : Sort). Some x) (e env false) n.part.1 both.right in
      let is : item_sort n.part.0 ≡ s = ap (λ o. suffix_sort (at, Some e) (n.part.0, o)) i.2 ∙ n.is in
      let fits : index_rules at (is_array_sort n.part.0 && is_int_sort i.0) ≡ [] = ap (λ o. suffix_rules (at, Some e) (n.part.0, o)) i.2 ∙ n.keeps in
      let array = and_parts (is_array_sort n.part.0) (is_int_sort i.0) (rule_holds 15 at (is_array_sort n.part.0 && is_int_sort i.0) fits) in
      agrees_as env.behaviors (item_sort n.part.0) s (text.item_sort k) is (item_agrees env.behaviors n.part.0 k (a n.part.0 both.left) array.0)

  suffix_agrees : (x : SuffixTyping) (b : Bool) → is_some x.1 ≡ b → (v : Verdict Sort) (k : Option MeantSort) → AgreesIfGood v k → AgreesIfGood (node (v also verdict_of_option x.1 env) (suffix_rules x) (suffix_sort x)) (text.suffix_sort b k)
  suffix_agrees (at, None) b e v k a = subst (λ c. AgreesIfGood (node (v also verdict_of_option None env) (suffix_rules (at, None)) (suffix_sort (at, None))) (text.suffix_sort c k)) e (length_agrees at v k a)
  suffix_agrees (at, Some m) b e v k a = subst (λ c. AgreesIfGood (node (v also verdict_of_option (Some m) env) (suffix_rules (at, Some m)) (suffix_sort (at, Some m))) (text.suffix_sort c k)) e (index_agrees at m v k a)

  suffixes_agree : (rest : List (Known Suffix PS)) (v : Verdict Sort) (k : Option MeantSort) → AgreesIfGood v k
      → AgreesIfGood (suffixes_verdict v (map suffix_verdict (map (λ z. z.0) rest)) env) (text.suffixed_sort k (map is_index (map (λ z. z.0) rest)))
  suffixes_agree [] v k a s g = a s g
  suffixes_agree (x ∷ xs) v k a s g =
      suffixes_agree xs (node (v also verdict_of_option (suffix_verdict x.0).1 env) (suffix_rules (suffix_verdict x.0)) (suffix_sort (suffix_verdict x.0))) (text.suffix_sort (is_index x.0) k)
      (suffix_agrees (suffix_verdict x.0) (is_index x.0) x.1 v k a) s g

  -- ---- each form

  abbrev LayerE : Type 0
  LayerE = Expr-F (Known Expr PE) (Known Suffix PS) (Known At PA) (Known Operand PO)

  abbrev trees : LayerE → Expr-F Expr Suffix At Operand
  trees = map-Expr (Known Expr PE) (Known Suffix PS) (Known At PA) (Known Operand PO) Expr Suffix At Operand (λ z. z.0) (λ z. z.0) (λ z. z.0) (λ z. z.0)

  abbrev verdicts : Expr-F Expr Suffix At Operand → Expr-F ExprTyping SuffixTyping LocationTyping OperandTyping
  verdicts = map-Expr Expr Suffix At Operand ExprTyping SuffixTyping LocationTyping OperandTyping expr_verdict suffix_verdict at_verdict operand_verdict

  abbrev sorts : Expr-F Expr Suffix At Operand → Expr-F SortInScope Bool (Unit {0}) (Op × SortInScope)
  sorts = map-Expr Expr Suffix At Operand SortInScope Bool (Unit {0}) (Op × SortInScope) sort_of is_index place_sort part_sort

  name_agrees : (at : ℕ) (name : List ℕ) (s : Sort) → variable_verdict at (variable_with_name name env) ≡ Good s → AgreesHere s (name_sort name scope)
  name_agrees at name s g =
      let r = variable_parts at (variable_with_name name env) s g in
      agrees_as env.behaviors r.0.sort s (name_sort name scope) r.3 (value_stands env.behaviors r.0 (name_sort name scope) (name_stands name env mine h r.0 r.1) r.2)

  own_agrees : (at : ℕ) (name : List ℕ) (s : Sort) → variable_verdict at (field_with_name name env) ≡ Good s → AgreesHere s (field_sort name scope)
  own_agrees at name s g =
      let r = variable_parts at (field_with_name name env) s g in
      agrees_as env.behaviors r.0.sort s (field_sort name scope) r.3 (value_stands env.behaviors r.0 (field_sort name scope) (field_stands name env mine h r.0 r.1).0 r.2)

  me_agrees : (at : ℕ) (s : Sort) → good_unless (handler_only_rules env at) (plain (Actor env.own)) ≡ Good s → AgreesHere s (text.plain (meant.Actor mine))
  unfolding number_sort
  me_agrees at s g =
      let r = unless_parts (handler_only_rules env at) (plain (Actor env.own)) s g in
      agrees_as env.behaviors (plain (Actor env.own)) s (text.plain (meant.Actor mine)) r.1
      (agrees_value env.behaviors (plain (Actor env.own)) (text.plain (meant.Actor mine)) (sym (ap (λ o. sort_with (option_map meant.Actor o) 0) h.own)) (actor_is_value env.own mine env.behaviors h.own))

  behavior_of_new : (b : Option Behavior) (args : List Sort) → constructor_accepts b args env ≡ true → is_some b ≡ true
  unfolding constructor_accepts
  behavior_of_new None args e = e
  behavior_of_new (Some b) args e = refl

  new_agrees : (at : ℕ) (b : Ident) (args : Verdict (List Sort)) (place : Verdict (Unit {0})) (s : Sort)
      → node (args also place) (λ s. handler_only_rules env at ++ new_rules at b s.0 env) (λ s. plain (Actor b.text)) ≡ Good s → AgreesHere s (sort_with (actor_base b.text env.behaviors) 0)
  unfolding has_behavior
  new_agrees at b args place s g =
      let n = node_parts (args also place) (λ s. handler_only_rules env at ++ new_rules at b s.0 env) (λ s. plain (Actor b.text)) s g in
      let accepts = rule_holds 17 at (constructor_accepts (behavior_with_name b.text env) n.part.0 env) (none_right (handler_only_rules env at) (new_rules at b n.part.0 env) n.keeps) in
      agrees_as env.behaviors (plain (Actor b.text)) s (sort_with (actor_base b.text env.behaviors) 0) n.is
      (actor_agrees b.text env h.few (behavior_of_new (behavior_with_name b.text env) n.part.0 accepts))

  by_name_agrees : (at : ℕ) (cast : Option Ident) (b : Ident) (name : Verdict Sort) (s : Sort)
      → node name (λ s. handler_only_rules env at ++ by_name_rules cast b s env) (λ s. plain (Actor b.text)) ≡ Good s → AgreesHere s (sort_with (actor_base b.text env.behaviors) 0)
  by_name_agrees at cast b name s g =
      let n = node_parts name (λ s. handler_only_rules env at ++ by_name_rules cast b s env) (λ s. plain (Actor b.text)) s g in
      let fits = rule_holds 20 b.at (has_behavior b.text env && is_text_sort n.part && cast_fits cast b) (none_right (handler_only_rules env at) (by_name_rules cast b n.part env) n.keeps) in
      agrees_as env.behaviors (plain (Actor b.text)) s (sort_with (actor_base b.text env.behaviors) 0) n.is
      (actor_agrees b.text env h.few (and_parts (has_behavior b.text env) _ (and_parts _ (cast_fits cast b) fits).0).0)

  typed_agrees : {B : Type 0} (t : TypeName) (v : Verdict B) (rules : Sort × B → List Violation) (s : Sort) → node (type_verdict t env also v) rules (λ p. p.0) ≡ Good s → AgreesHere s (type_sort t env.behaviors)
  typed_agrees t v rules s g =
      let n = node_parts (type_verdict t env also v) rules (λ p. p.0) s g in
      let both = also_parts (type_verdict t env) v n.part n.typed in
      let written = type_parts t env n.part.0 h.few both.left in
      agrees_as env.behaviors (sort_of_type t) s (type_sort t env.behaviors) (written.0 ∙ n.is) (type_agrees t env.behaviors written.1)

  form_agrees : (y : LayerE) (minus : Bool) (s : Sort) → typing.expr_step (verdicts (trees y)) env minus ≡ Good s → AgreesHere s (text.sort_step (sorts (trees y)) scope)
  unfolding number_sort
  form_agrees (Expr-F.Number n at) minus s g = let r = unless_parts (number_rules n at minus) (plain Int) s g in agrees_as env.behaviors (plain Int) s (text.plain meant.Int) r.1 (int_agrees env.behaviors)
  form_agrees (Expr-F.Str t at) minus s g = agrees_as env.behaviors (plain Str) s (text.plain meant.Str) (good_is (plain Str) s g) (text_agrees env.behaviors)
  form_agrees (Expr-F.Bool b at) minus s g = agrees_as env.behaviors (plain Boolean) s (text.plain meant.Bool) (good_is (plain Boolean) s g) (boolean_agrees env.behaviors)
  form_agrees (Expr-F.Null at) minus s g = agrees_as env.behaviors (plain Null) s None (good_is (plain Null) s g) (record { is = refl; known = inl refl })
  form_agrees (Expr-F.Me at) minus s g = me_agrees at s g
  form_agrees (Expr-F.Name name) minus s g = name_agrees name.at name.text s g
  form_agrees (Expr-F.Own at name) minus s g = own_agrees name.at name.text s g
  form_agrees (Expr-F.Paren at e) minus s g = e.1 false s g
  form_agrees (Expr-F.Neg at e) minus s g =
      let n = node_parts (expr_verdict e.0 env true) (λ s. operator_rules at (is_int_sort s)) (λ s. plain Int) s g in
      agrees_as env.behaviors (plain Int) s (text.plain meant.Int) n.is (int_agrees env.behaviors)
  form_agrees (Expr-F.Not at e) minus s g =
      let n = node_parts (expr_verdict e.0 env false) (λ s. operator_rules at (is_boolean_sort s)) (λ s. plain Boolean) s g in
      agrees_as env.behaviors (plain Boolean) s (text.plain meant.Bool) n.is (boolean_agrees env.behaviors)
  form_agrees (Expr-F.Level first rest) minus s g = level_agrees rest (expr_verdict first.0 env false) (sort_of first.0 scope) (first.1 false) s g
  form_agrees (Expr-F.Suffixed first rest) minus s g = suffixes_agree rest (expr_verdict first.0 env minus) (sort_of first.0 scope) (first.1 minus) s g
  form_agrees (Expr-F.New at b args place) minus s g = new_agrees at b (verdict_of_exprs (map expr_verdict (map (λ z. z.0) args)) env) _ s g
  form_agrees (Expr-F.Make at t size) minus s g = typed_agrees t (expr_verdict size.0 env false) (λ s. array_rules at (is_int_sort s.1)) s g
  form_agrees (Expr-F.ListOf at t items) minus s g = typed_agrees t (verdict_of_exprs (map expr_verdict (map (λ z. z.0) items)) env) (λ s. array_rules at (are_all_assignable env s.1 (item_sort s.0))) s g
  form_agrees (Expr-F.ByName at cast b name) minus s g = by_name_agrees at cast b (expr_verdict name.0 env false) s g

  expr_layer : (y : LayerE) → PE (roll-Expr (trees y))
  unfolding expr_verdict suffix_verdict at_verdict operand_verdict sort_of
  expr_layer y minus s g =
      let checked = fold-roll-Expr ExprTyping SuffixTyping LocationTyping OperandTyping typing.expr_step typing.suffix_step typing.at_step typing.operand_step (trees y) in
      let read = fold-roll-Expr SortInScope Bool (Unit {0}) (Op × SortInScope) text.sort_step text.suffix_step text.at_step text.operand_step (trees y) in
      subst (λ (m : SortInScope). AgreesHere s (m scope)) (sym read) (form_agrees y minus s (sym (ap (λ (m : ExprTyping). m env minus) checked) ∙ g))

  abbrev LayerS : Type 0
  LayerS = Suffix-F (Known Expr PE) (Known Suffix PS) (Known At PA) (Known Operand PO)

  abbrev suffix_trees : LayerS → Suffix-F Expr Suffix At Operand
  suffix_trees = map-Suffix (Known Expr PE) (Known Suffix PS) (Known At PA) (Known Operand PO) Expr Suffix At Operand (λ z. z.0) (λ z. z.0) (λ z. z.0) (λ z. z.0)

  suffix_form : (y : LayerS) → is_some (typing.suffix_step (map-Suffix Expr Suffix At Operand ExprTyping SuffixTyping LocationTyping OperandTyping expr_verdict suffix_verdict at_verdict operand_verdict (suffix_trees y))).1
      ≡ text.suffix_step (map-Suffix Expr Suffix At Operand SortInScope Bool (Unit {0}) (Op × SortInScope) sort_of is_index place_sort part_sort (suffix_trees y))
  suffix_form (Suffix-F.Index at e) = refl
  suffix_form (Suffix-F.Length at) = refl

  suffix_layer : (y : LayerS) → PS (roll-Suffix (suffix_trees y))
  unfolding expr_verdict suffix_verdict at_verdict operand_verdict sort_of
  suffix_layer y =
      ap (λ (x : SuffixTyping). is_some x.1) (fold-roll-Suffix ExprTyping SuffixTyping LocationTyping OperandTyping typing.expr_step typing.suffix_step typing.at_step typing.operand_step (suffix_trees y))
      ∙ suffix_form y
      ∙ sym (fold-roll-Suffix SortInScope Bool (Unit {0}) (Op × SortInScope) text.sort_step text.suffix_step text.at_step text.operand_step (suffix_trees y))

  abbrev LayerO : Type 0
  LayerO = Operand-F (Known Expr PE) (Known Suffix PS) (Known At PA) (Known Operand PO)

  abbrev operand_trees : LayerO → Operand-F Expr Suffix At Operand
  operand_trees = map-Operand (Known Expr PE) (Known Suffix PS) (Known At PA) (Known Operand PO) Expr Suffix At Operand (λ z. z.0) (λ z. z.0) (λ z. z.0) (λ z. z.0)

  operand_layer : (y : LayerO) → PO (roll-Operand (operand_trees y))
  operand_layer y = y.value.1

  pub expr_agrees : (e : Expr) → PE e
  expr_agrees =
      ind-Expr PE PS PA PO (λ x y is. subst (λ z. PE (roll-Expr z)) is (expr_layer y)) (λ x y is. subst (λ z. PS (roll-Suffix z)) is (suffix_layer y))
      (λ x y is. tt) (λ x y is. subst (λ z. PO (roll-Operand z)) is (operand_layer y))

pub have_sorts : ExpressionsHaveTheirSorts
have_sorts env mine h e minus s g = let r = expr_agrees env mine h e minus s g in (r.is, r.known)
