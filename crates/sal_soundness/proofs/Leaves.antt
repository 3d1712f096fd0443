-- What typing gives of declarations, assignments and `return`.
use Rattle.std.proofs.Common.{◌≡◌, ℕ, ◌+◌, ◌-◌, ◌≤◌, Bool, true, false, not, if◌then◌else◌, List, [], ◌∷◌, length, Option, Some, None, refl, sym, ap, subst, ◌∙◌, arith, rules}
use Rattle.std.specs.List.{list_all}
use Rattle.std.proofs.lemmas.Bool.{and_parts}
use Rattle.sal_value.specs.declared.value.Base.{Base as MeantBase}
use Rattle.sal_value.specs.declared.value.Sort.{Sort as MeantSort}
use Rattle.sal_value.specs.declared.value.Value.{Value}
use Rattle.sal_value.specs.declared.value.Value.TheVariants.{Null}
use Rattle.sal_value.proofs.Tables.{some_is}
use Rattle.sal_ast.specs.declared.program.Ident.{Ident}
use Rattle.sal_ast.specs.declared.program.Program.{Program}
use Rattle.sal_ast.specs.declared.expression.Expr.{Expr, out-Expr, the_lemmas}
use Rattle.sal_ast.specs.declared.expression.Suffix.{Suffix}
use Rattle.sal_ast.specs.declared.expression.At.{At}
use Rattle.sal_ast.specs.declared.expression.Operand.{Operand}
use Rattle.sal_ast.specs.declared.expression.Expr.TheOpen.{Expr-F}
use Rattle.sal_ast.specs.declared.expression.Expr.TheViews.{roll-Expr}
use Rattle.sal_ast.specs.declared.expression.Expr.TheFolds.{fold-roll-Expr}
use Rattle.sal_ast.specs.declared.statement.Assign.{Assign}
use Rattle.sal_ast.specs.declared.statement.Declare.{Declare}
use Rattle.sal_ast.specs.Regular as regular
use Rattle.sal_ast.specs.Regular.{Shape, RankedOperand, expr_is_regular, option_is_regular, assign_is_regular}
use Rattle.sal_ast.specs.Sorts.{Scope, sort_with, type_sort}
use Rattle.sal_sorts.specs.declared.sort.Base.TheVariants.{Int}
use Rattle.sal_sorts.specs.declared.sort.Sort.{Sort}
use Rattle.sal_sorts.specs.declared.variable.Variable.{Variable}
use Rattle.sal_sorts.specs.Sorts.{plain, sort_below, sort_of_type}
use Rattle.sal_sorts.specs.Environments.{Environment, field_with_name, variable_with_name}
use Rattle.sal_sorts.specs.Expressions.{ExprTyping, token_rules, variable_verdict, expr_verdict}
use Rattle.sal_sorts.specs.Verdicts.{Good, good_unless}
use Rattle.sal_types.specs.declared.signature.Signature.{Signature}
use Rattle.sal_types.specs.Programs.{IsTyped}
use Rattle.sal_typing.specs.Numbers.{number_base, number_sort, scope_of}
use Rattle.sal_typing.specs.Known.{Each, IsKnown}
use Rattle.sal_typing.specs.Parts.{HasSort}
use Rattle.sal_typing.specs.StatementParts.{ValueParts, DeclareParts, AssignParts, ReturnParts}
use Rattle.sal_typing.proofs.Numbering.{number_of_type, sort_parts, dims_valid}
use Rattle.sal_typing.proofs.Expressions.{type_parts}
use Rattle.sal_typing.proofs.ExpressionParts.{verdict_of_form, verdict_is}
use Rattle.sal_typing.proofs.Fitting.{assignable_fits}
use Rattle.sal_handler.specs.Scopes.{Context}
use Rattle.sal_handler.specs.Values.{default_of}
use Rattle.sal_fitting.specs.Programs.{signatures}
use Rattle.sal_fitting.specs.Signatures.{void_sort}
use Rattle.sal_fitting.proofs.Pieces.{null_void}
use Rattle.sal_preservation.proofs.Judging as judging
use Rattle.sal_preservation.proofs.Expressions.{Belongs}
use Rattle.sal_preservation.proofs.Values.{default_is}
use Rattle.sal_soundness.proofs.Anywhere.{Can}
use Rattle.sal_soundness.proofs.Executing as executing
use Rattle.sal_soundness.proofs.Assigning as assigning
use Rattle.sal_soundness.proofs.Sends as sends
use Rattle.sal_soundness.proofs.Sends.{number_no_null, void_kind, tokens}

-- ---- names

out_expr : (z : Expr-F Expr Suffix At Operand) → out-Expr (roll-Expr z) ≡ z
out_expr z = search (rules, the_lemmas)

module _ (env : Environment) (mine : ℕ) (known : IsKnown env mine) where
  abbrev here : Scope
  here = scope_of env mine

  variable_typed : (z : Expr-F Expr Suffix At Operand) (at : ℕ) (o : Option Variable) (v : Variable) → verdict_of_form z env false ≡ variable_verdict at o → o ≡ Some v → v.is_token ≡ false → expr_verdict (roll-Expr z) env false ≡ Good v.sort
  variable_typed z at o v is found plain_value =
      ap (λ (m : ExprTyping). m env false) (verdict_is (roll-Expr z))
      ∙ ap (λ y. verdict_of_form y env false) (out_expr z)
      ∙ is
      ∙ ap (variable_verdict at) found
      ∙ ap (λ b. good_unless (token_rules at (not b)) v.sort) plain_value

  judged : (z : Expr-F Expr Suffix At Operand) (s : Sort) → expr_is_regular (roll-Expr z) ≡ true → expr_verdict (roll-Expr z) env false ≡ Good s → judging.Judgement env mine known (roll-Expr z) here (number_sort s env.behaviors)
  judged z s r h = record { minus = false; sort = s; scope = refl; regular = r; good = h; kind = refl }

  own_regular : (name : Ident) → expr_is_regular (roll-Expr (Expr-F.Own 0 name)) ≡ true
  unfolding regular.shape_of
  own_regular name = ap (λ (s : Shape). s.regular) (fold-roll-Expr Shape Bool Bool RankedOperand regular.shape_step regular.suffix_step regular.at_step regular.operand_step (Expr-F.Own 0 name))

  name_regular : (name : Ident) → expr_is_regular (roll-Expr (Expr-F.Name name)) ≡ true
  unfolding regular.shape_of
  name_regular name = ap (λ (s : Shape). s.regular) (fold-roll-Expr Shape Bool Bool RankedOperand regular.shape_step regular.suffix_step regular.at_step regular.operand_step (Expr-F.Name name))

  -- the type of what is assigned to
  target_typed : (own : Bool) (name : Ident) (v : Variable) → (if own then field_with_name name.text env else variable_with_name name.text env) ≡ Some v → v.is_token ≡ false
      → (u : MeantSort) × ((assigning.assigned_sort own name.text here ≡ Some u) × (Some u ≡ number_sort v.sort env.behaviors))
  target_typed true name v found plain_value =
      let z : Expr-F Expr Suffix At Operand = Expr-F.Own 0 name in
      (judging.judges env mine known).exprs z here (number_sort v.sort env.behaviors) (judged z v.sort (own_regular name) (variable_typed z name.at (field_with_name name.text env) v refl found plain_value))
  target_typed false name v found plain_value =
      let z : Expr-F Expr Suffix At Operand = Expr-F.Name name in
      (judging.judges env mine known).exprs z here (number_sort v.sort env.behaviors) (judged z v.sort (name_regular name) (variable_typed z name.at (variable_with_name name.text env) v refl found plain_value))

pub below_is : (o : Option MeantBase) (b : MeantBase) (d : ℕ) → o ≡ Some b → d ≤ 8 → sort_with o d ≡ Some (record { base = b; dims = d })
below_is o b d e low = ap (λ z. sort_with z d) e ∙ dims_valid b d low

-- ---- values, declarations, assignments and `return`

module _ (p : Program) (typed : IsTyped p) (g : Signature) (from : ℕ) (env : Environment) (mine : ℕ) (known : IsKnown env mine) (same : env.behaviors ≡ p.behaviors) (r : Context) (can : Can p.behaviors r) (item : Option MeantSort) where
  abbrev First : Option Expr → Value → MeantSort → Type 0
  First o start u = executing.FirstOf p.behaviors (signatures p) g from r item can o start (scope_of env mine) u

  first_of : (o : Option Expr) (start : Value) (to : Sort) (u : MeantSort) → option_is_regular o ≡ true → ValueParts o env to → number_sort to env.behaviors ≡ Some u → Belongs u start → First o start u
  first_of None start to u regular h is b = b
  first_of (Some e) start to u regular h is b = sends.value_fits p typed env mine known same g from item r can e h.0 to u regular h.1 (assignable_fits env known.few h.0 to h.2) is

  -- what a declaration brings
  pub record Declared (d : Declare) : Type 0 where
    pub sort : MeantSort
    pub is : type_sort d.sort r.behaviors ≡ Some sort
    pub first : First d.init (default_of d.sort) sort

  pub declared : (d : Declare) → option_is_regular d.init ≡ true → DeclareParts d env → Declared d
  declared d regular h =
      let t = type_parts d.sort env (sort_of_type d.sort) known.few h.0 in
      let there : type_sort d.sort r.behaviors ≡ Some t.1.0 = ap (type_sort d.sort) (can.1 ∙ sym same) ∙ t.1.1 in
      record {
        sort = t.1.0;
        is = there;
        first = first_of d.init (default_of d.sort) (sort_of_type d.sort) t.1.0 regular h.1 (number_of_type d.sort env.behaviors ∙ t.1.1) (default_is env.behaviors d.sort t.1.0 t.1.1);
      }

  kinds_of : (es : List Expr) → list_all expr_is_regular es ≡ true → Each (λ e. HasSort env e (plain Int)) es → assigning.KindsOf p.behaviors (signatures p) g from r can (scope_of env mine) (tokens env) item es
  kinds_of [] regular h = tt
  kinds_of (e ∷ es) regular h =
      let q = and_parts (expr_is_regular e) (list_all expr_is_regular es) regular in
      (sends.has_kind p typed env mine known same g from item r can e (plain Int) q.0 h.0, kinds_of es q.1 h.1)

  sort_below_is : (s : Sort) (n : ℕ) (t : MeantSort) → number_sort s env.behaviors ≡ Some t → n ≤ s.dims → (b : MeantSort) × ((number_sort (sort_below s n) env.behaviors ≡ Some b) × ((t.base ≡ b.base) × (t.dims ≡ b.dims + n)))
  unfolding number_sort sort_below
  sort_below_is s n t is low =
      let q = sort_parts (number_base s.base env.behaviors) s.dims t is in
      let few : s.dims ≤ 8 = q.few in
      let less : s.dims - n ≤ 8 = omega arith in
      let up : s.dims ≡ (s.dims - n) + n = omega arith in
      (record { base = q.base; dims = s.dims - n }, (below_is (number_base s.base env.behaviors) q.base (s.dims - n) q.known less, (ap (λ (x : MeantSort). x.base) q.is, ap (λ (x : MeantSort). x.dims) q.is ∙ up)))

  pub assigned : (a : Assign) → assign_is_regular a ≡ true → AssignParts a env → assigning.AssignOf p.behaviors (signatures p) g from r can (scope_of env mine) (tokens env) item a
  assigned a regular h =
      let q = and_parts (list_all expr_is_regular a.indexes) (expr_is_regular a.value) regular in
      let t = target_typed env mine known a.own a.name h.variable h.found h.no_token in
      let b = sort_below_is h.variable.sort (length a.indexes) t.0 (sym t.1.1) h.levels in
      let v = sends.value_fits p typed env mine known same g from item r can a.value h.value (sort_below h.variable.sort (length a.indexes)) b.0 q.1 h.typed (assignable_fits env known.few h.value (sort_below h.variable.sort (length a.indexes)) h.fits) b.1.0 in
      record { top = t.0; is = t.1.0; below = b.0; base = b.1.1.0; dims = b.1.1.1; indexes = kinds_of a.indexes q.0 h.indexes; kind = v.0; value = v.1.0; fits = v.1.1 }

  -- what is returned is of the result's type
  pub returned : (o : Option Expr) → option_is_regular o ≡ true → ReturnParts o env → number_sort env.result env.behaviors ≡ Some g.result → First o Null g.result
  returned None regular h is =
      let void : void_sort ≡ g.result = some_is (sym (void_kind env.behaviors) ∙ (ap (λ s. number_sort s env.behaviors) (sym h) ∙ is)) in
      subst (λ (s : MeantSort). Belongs s Null) void null_void
  returned (Some e) regular h is = sends.value_fits p typed env mine known same g from item r can e h.0 env.result g.result regular h.1 (assignable_fits env known.few h.0 env.result h.2) is
