-- The checker's judgement of expressions, and what it says of their parts in the meaning's types.
use Rattle.std.proofs.Common.{◌≡◌, inr, if◌then◌else◌, ℕ, suc, Bool, true, false, ◌&&◌, List, [], ◌∷◌, map, Option, Some, None, option_map, refl, sym, ap, subst, ◌∙◌, rules}
use Rattle.std.specs.Prelude.{nat_le, nat_eq, slice_get}
use Rattle.std.specs.List.{list_all, find}
use Rattle.std.specs.Str.{bytes_eq}
use Rattle.std.proofs.lemmas.Bool.{and_parts}
use Rattle.sal_value.specs.declared.value.Sort.{Sort as MeantSort}
use Rattle.sal_value.proofs.Tables.{some_is}
use Rattle.sal_ast.specs.declared.program.TypeName.{TypeName}
use Rattle.sal_ast.specs.declared.program.Ident.{Ident}
use Rattle.sal_ast.specs.declared.program.Param.{Param}
use Rattle.sal_ast.specs.declared.program.Behavior.{Behavior}
use Rattle.sal_ast.specs.declared.expression.Expr.{Expr, out-Expr, the_lemmas}
use Rattle.sal_ast.specs.declared.expression.Suffix.{Suffix, out-Suffix}
use Rattle.sal_ast.specs.declared.expression.At.{At}
use Rattle.sal_ast.specs.declared.expression.Operand.{Operand}
use Rattle.sal_ast.specs.declared.expression.Expr.TheViews.{roll-Expr, roll-Suffix}
use Rattle.sal_ast.specs.declared.expression.Expr.TheOpen.{Expr-F, Suffix-F}
use Rattle.sal_ast.specs.declared.expression.Expr.TheFolds.{map-Expr, map-Suffix, fold-roll-Expr, fold-roll-Suffix}
use Rattle.sal_ast.specs.Members.{Field, behavior_by_name}
use Rattle.sal_ast.specs.Regular as regular
use Rattle.sal_ast.specs.Regular.{Shape, RankedOperand, has_rank, is_operand_at, all_regular, all_true, or_true, shape_of, suffix_is_regular, at_is_regular, ranked_operand, expr_is_regular}
use Rattle.sal_ast.specs.Sorts.{Scope, SortInScope, name_sort, field_sort, type_sort}
use Rattle.sal_ast.specs.Sorts as read
use Rattle.sal_ast.proofs.RegularEquations.{regular-At, regular-Operand}
use Rattle.sal_sorts.specs.declared.sort.Base.TheVariants.{Int, Boolean, Str, Actor}
use Rattle.sal_sorts.specs.declared.sort.Sort.{Sort}
use Rattle.sal_sorts.specs.declared.variable.Variable.{Variable}
use Rattle.sal_sorts.specs.Sorts.{plain, item_sort, sort_of_type}
use Rattle.sal_sorts.specs.Environments.{Environment, is_assignable, fields_in, field_variable, field_with_name, behavior_with_name, constructor_params, constructor_accepts, is_handler}
use Rattle.sal_sorts.specs.Expressions.{expr_verdict, operator_sort}
use Rattle.sal_sorts.specs.Verdicts.{Good}
use Rattle.sal_ast.specs.Members.{Handler, constructor_of}
use Rattle.sal_typing.specs.Numbers.{number_sort, number_variable, scope_of}
use Rattle.sal_typing.specs.Known.{Each, IsExprSort, IsValueSort, IsSortInScope, IsKnown}
use Rattle.sal_typing.specs.Parts.{Pairwise, HasSort, HasSortIfAny, LevelParts, SuffixParts, SuffixesParts, LocationParts, IsValueOf, ExprParts}
use Rattle.sal_typing.specs.Fitting.{Fits}
use Rattle.sal_typing.proofs.Numbering.{int_is_value, number_of_known}
use Rattle.sal_typing.proofs.Expressions.{have_sorts, name_stands}
use Rattle.sal_typing.proofs.ExpressionParts.{have_parts}
use Rattle.sal_typing.proofs.Fitting.{assignable_fits, constructors_take, operands_have_sorts}
use Rattle.sal_preservation.specs.States.{params_in, or_void, params_of}
use Rattle.sal_preservation.proofs.Judged as j
use Rattle.sal_preservation.proofs.Judged.{Kind, Assignable, int, boolean, text, actor}
use Rattle.sal_preservation.proofs.Reaching as n
use Rattle.sal_preservation.proofs.Reaching.{NoNull, type_no_null}

out_expr : (z : Expr-F Expr Suffix At Operand) → out-Expr (roll-Expr z) ≡ z
out_expr z = search (rules, the_lemmas)

out_suffix : (z : Suffix-F Expr Suffix At Operand) → out-Suffix (roll-Suffix z) ≡ z
out_suffix z = search (rules, the_lemmas)

-- ---- regular parts

abbrev shapes : Expr-F Expr Suffix At Operand → Expr-F Shape Bool Bool RankedOperand
shapes = map-Expr Expr Suffix At Operand Shape Bool Bool RankedOperand shape_of suffix_is_regular at_is_regular ranked_operand

form_regular : (z : Expr-F Expr Suffix At Operand) → expr_is_regular (roll-Expr z) ≡ true → (regular.shape_step (shapes z)).regular ≡ true
unfolding shape_of suffix_is_regular at_is_regular ranked_operand
form_regular z h = sym (ap (λ (s : Shape). s.regular) (fold-roll-Expr Shape Bool Bool RankedOperand regular.shape_step regular.suffix_step regular.at_step regular.operand_step z)) ∙ h

suffix_regular : (z : Suffix-F Expr Suffix At Operand) → suffix_is_regular (roll-Suffix z) ≡ true → regular.suffix_step (map-Suffix Expr Suffix At Operand Shape Bool Bool RankedOperand shape_of suffix_is_regular at_is_regular ranked_operand z) ≡ true
unfolding shape_of suffix_is_regular at_is_regular ranked_operand
suffix_regular z h = sym (fold-roll-Suffix Shape Bool Bool RankedOperand regular.shape_step regular.suffix_step regular.at_step regular.operand_step z) ∙ h

ranked : (rank : ℕ) (x : Shape) → has_rank rank x ≡ true → x.regular ≡ true
ranked rank x h = (and_parts (nat_le rank x.rank) x.regular h).1

operand_regular : (rank : ℕ) (p : Operand) → is_operand_at rank (ranked_operand p) ≡ true → expr_is_regular p.value ≡ true
operand_regular rank p h =
    let g : is_operand_at rank (regular.operand_step (record { op = p.op; at = p.at; value = shape_of p.value })) ≡ true = sym (ap (is_operand_at rank) (regular-Operand p)) ∙ h in
    ranked (suc rank) (shape_of p.value) (and_parts (nat_eq (regular.rank_of p.op) rank) (has_rank (suc rank) (shape_of p.value)) g).1

-- ---- the checker's fields

field_no_null : (o : Option Field) (v : Variable) → option_map field_variable o ≡ Some v → NoNull v.sort
field_no_null None v e = absurd cc
field_no_null (Some f) v e = subst (λ (x : Variable). NoNull x.sort) (some_is e) (type_no_null f.sort)

own_no_null : (name : List ℕ) (env : Environment) (v : Variable) → field_with_name name env ≡ Some v → NoNull v.sort
unfolding field_with_name
own_no_null name env v e = field_no_null (find (λ (f : Field). bytes_eq f.name name) (fields_in (behavior_with_name env.own env))) v e

params_no_null : (o : Option Handler) → Each NoNull (constructor_params o)
params_no_null None = tt
params_no_null (Some h) = each h.params
  where
    each : (ps : List Param) → Each NoNull (map (λ (p : Param). sort_of_type p.sort) ps)
    each [] = tt
    each (p ∷ ps) = (type_no_null p.sort, each ps)

module _ (env : Environment) (mine : ℕ) (known : IsKnown env mine) where
  abbrev bs : List Behavior
  bs = env.behaviors

  abbrev num : Sort → Kind
  num = n.num env.behaviors

  abbrev here : Scope
  here = scope_of env mine

  -- ---- the judgements

  pub record Judgement (e : Expr) (sc : Scope) (k : Kind) : Type 0 where
    pub minus : Bool
    pub sort : Sort
    pub scope : scope_of env mine ≡ sc
    pub regular : expr_is_regular e ≡ true
    pub good : expr_verdict e env minus ≡ Good sort
    pub kind : number_sort sort env.behaviors ≡ k

  pub record SuffixJudgement (x : Suffix) (sc : Scope) (a k : Kind) : Type 0 where
    pub from : Sort
    pub to : Sort
    pub scope : scope_of env mine ≡ sc
    pub regular : suffix_is_regular x ≡ true
    pub origin : IsExprSort from env.behaviors
    pub parts : SuffixParts (out-Suffix x) env from to
    pub starts : number_sort from env.behaviors ≡ a
    pub gives : number_sort to env.behaviors ≡ k

  abbrev pub makes : ℕ → List MeantSort
  makes k = params_of env.behaviors k

  abbrev J : Expr → Kind → Type 0
  J e k = Judgement e here k

  judged : (e : Expr) (minus : Bool) (s : Sort) → expr_is_regular e ≡ true → expr_verdict e env minus ≡ Good s → J e (num s)
  judged e minus s r h = record { minus = minus; sort = s; scope = refl; regular = r; good = h; kind = refl }

  sort_known : (e : Expr) (minus : Bool) (s : Sort) → expr_verdict e env minus ≡ Good s → IsExprSort s env.behaviors
  sort_known e minus s h = (have_sorts env mine known e minus s h).1

  has_kind : (e : Expr) (minus : Bool) (s : Sort) → expr_is_regular e ≡ true → expr_verdict e env minus ≡ Good s → j.HasKind Judgement SuffixJudgement makes e here
  has_kind e minus s r h = (num s, judged e minus s r h)

  -- ---- several

  item_fits : (e : Expr) (s t : Sort) → expr_is_regular e ≡ true → HasSort env e s → Fits env s t → NoNull t → (u : MeantSort) → num t ≡ Some u → j.ItemOf Judgement SuffixJudgement makes e here u
  item_fits e s t r h f nn u is =
      let g = n.reaches env.behaviors env refl s t (sort_known e false s h) f nn in
      let same : g.to ≡ u = some_is (sym g.is ∙ is) in
      (num s, (judged e false s r h, subst (Assignable (num s)) same g.fits))

  args_fit : (es : List Expr) (ss ts : List Sort) → all_regular (map shape_of es) ≡ true → Pairwise (HasSort env) es ss → Pairwise (Fits env) ss ts → Each NoNull ts → j.ArgsOf Judgement SuffixJudgement makes es here (map (λ t. or_void (number_sort t env.behaviors)) ts)
  args_fit [] [] [] r h f nn = tt
  args_fit [] [] (t ∷ ts) r h f nn = absurd f
  args_fit [] (s ∷ ss) ts r h f nn = absurd h
  args_fit (e ∷ es) [] ts r h f nn = absurd h
  args_fit (e ∷ es) (s ∷ ss) [] r h f nn = absurd f
  args_fit (e ∷ es) (s ∷ ss) (t ∷ ts) r h f nn =
      let q = and_parts (shape_of e).regular (all_regular (map shape_of es)) r in
      let g = n.reaches env.behaviors env refl s t (sort_known e false s h.0) f.0 nn.0 in
      let to : number_sort t env.behaviors ≡ Some (or_void (number_sort t env.behaviors)) = g.is ∙ ap (λ o. Some (or_void o)) (sym g.is) in
      (item_fits e s t q.0 h.0 f.0 nn.0 (or_void (number_sort t env.behaviors)) to, args_fit es ss ts q.1 h.1 f.1 nn.1)

  items_fit : (es : List Expr) (ss : List Sort) (t : Sort) (u : MeantSort) → num t ≡ Some u → NoNull t → all_regular (map shape_of es) ≡ true → Pairwise (HasSort env) es ss → Each (λ a. is_assignable env a t ≡ true) ss → j.ItemsOf Judgement SuffixJudgement makes es here u
  items_fit [] ss t u is nn r h f = tt
  items_fit (e ∷ es) [] t u is nn r h f = absurd h
  items_fit (e ∷ es) (s ∷ ss) t u is nn r h f =
      let q = and_parts (shape_of e).regular (all_regular (map shape_of es)) r in
      (item_fits e s t q.0 h.0 (assignable_fits env known.few s t f.0) nn u is, items_fit es ss t u is nn q.1 h.1 f.1)

  level_fits : (rank : ℕ) (ps : List Operand) (a s : Sort) → IsExprSort a env.behaviors → list_all (is_operand_at rank) (map ranked_operand ps) ≡ true → LevelParts ps env a s → j.LevelOf Judgement SuffixJudgement makes ps here (num a) (num s)
  level_fits rank [] a s k r h = ap num h
  level_fits rank (p ∷ ps) a s k r h =
      let q = and_parts (is_operand_at rank (ranked_operand p)) (list_all (is_operand_at rank) (map ranked_operand ps)) r in
      let o = n.operates env.behaviors env p.op a h.0 (operator_sort p.op a h.0) (operands_have_sorts env known.few p.op a h.0 h.2) in
      let rest = level_fits rank ps (operator_sort p.op a h.0) s o.known q.1 h.3 in
      (num h.0, (o.to, (judged p.value false h.0 (operand_regular rank p q.0) h.1, (o.of, subst (λ z. j.LevelOf Judgement SuffixJudgement makes ps here z (num s)) o.is rest))))

  suffix_known : (z : Suffix-F Expr Suffix At Operand) (a s : Sort) → IsExprSort a env.behaviors → SuffixParts z env a s → IsExprSort s env.behaviors
  suffix_known (Suffix-F.Index at e) a s k h = subst (λ z. IsExprSort z env.behaviors) h.2 (n.array_parts env.behaviors a k h.1).known
  suffix_known (Suffix-F.Length at) a s k h = subst (λ z. IsExprSort z env.behaviors) h.1 (inr (int_is_value env.behaviors))

  suffixes_fit : (xs : List Suffix) (a s : Sort) → IsExprSort a env.behaviors → all_true (map suffix_is_regular xs) ≡ true → SuffixesParts xs env a s → j.SuffixesOf Judgement SuffixJudgement makes xs here (num a) (num s)
  suffixes_fit [] a s k r h = ap num h
  suffixes_fit (x ∷ xs) a s k r h =
      let q = and_parts (suffix_is_regular x) (all_true (map suffix_is_regular xs)) r in
      (num h.0, (record { from = a; to = h.0; scope = refl; regular = q.0; origin = k; parts = h.1; starts = refl; gives = refl }, suffixes_fit xs h.0 s (suffix_known (out-Suffix x) a h.0 k h.1) q.1 h.2))

  -- ---- names

  value_kind : (v : Variable) (s : Sort) (k : Kind) → k ≡ (number_variable env.behaviors v).sort → IsSortInScope v.is_token v.sort env.behaviors → v.is_token ≡ false → v.sort ≡ s → (t : MeantSort) × ((k ≡ Some t) × (Some t ≡ num s))
  value_kind v s k is h plain_value e =
      let w : IsValueSort v.sort env.behaviors = subst (λ b. IsSortInScope b v.sort env.behaviors) plain_value h in
      let same : (number_variable env.behaviors v).sort ≡ num v.sort = ap (λ b. if b then None else number_sort v.sort env.behaviors) plain_value in
      (w.number, (is ∙ same ∙ w.means, sym w.means ∙ ap num e))

  own_kind : (at : ℕ) (name : Ident) (minus : Bool) (s : Sort) → expr_verdict (roll-Expr (Expr-F.Own at name)) env minus ≡ Good s → IsValueOf (field_with_name name.text env) s → (t : MeantSort) × ((field_sort name.text here ≡ Some t) × (Some t ≡ num s))
  unfolding read.sort_of
  own_kind at name minus s g h =
      let p = have_sorts env mine known (roll-Expr (Expr-F.Own at name)) minus s g in
      let nn : NoNull s = subst NoNull h.3 (own_no_null name.text env h.0 h.1) in
      let w = n.value_of env.behaviors s p.1 nn in
      let is : field_sort name.text here ≡ num s = sym (ap (λ (f : SortInScope). f here) (fold-roll-Expr _ _ _ _ read.sort_step _ _ _ (Expr-F.Own at name))) ∙ p.0 in
      (w.number, (is ∙ w.means, sym w.means))

  -- ---- places

  place_fits : (o : Option At) → or_true (option_map at_is_regular o) ≡ true → LocationParts o env → j.PlaceOf Judgement SuffixJudgement makes o here
  place_fits None r h = tt
  place_fits (Some p) r h =
      let g : regular.at_step (record { at = p.at; uan = shape_of p.uan; ual = option_map shape_of p.ual }) ≡ true = sym (regular-At p) ∙ r in
      let q = and_parts (shape_of p.uan).regular (or_true (option_map (λ (x : Shape). x.regular) (option_map shape_of p.ual))) g in
      (has_kind p.uan false (plain Str) q.0 h.0, maybe p.ual q.1 h.1)
    where
      maybe : (o : Option Expr) → or_true (option_map (λ (x : Shape). x.regular) (option_map shape_of o)) ≡ true → HasSortIfAny env o (plain Str) → j.MaybeOf Judgement SuffixJudgement makes o here
      maybe None r h = tt
      maybe (Some e) r h = has_kind e false (plain Str) r h

  new_args : (b : List ℕ) (es : List Expr) (ss : List Sort) → all_regular (map shape_of es) ≡ true → Pairwise (HasSort env) es ss → (k : ℕ) (o : Option Behavior) → slice_get env.behaviors k ≡ o → Pairwise (Fits env) ss (params_in o) → j.ArgsOf Judgement SuffixJudgement makes es here (makes k)
  new_args b es ss r h k None e f = subst (λ z. j.ArgsOf Judgement SuffixJudgement makes es here (map (λ t. or_void (number_sort t env.behaviors)) (params_in z))) (sym e) (args_fit es ss [] r h f tt)
  new_args b es ss r h k (Some c) e f = subst (λ z. j.ArgsOf Judgement SuffixJudgement makes es here (map (λ t. or_void (number_sort t env.behaviors)) (params_in z))) (sym e) (args_fit es ss (constructor_params (constructor_of c)) r h f (params_no_null (constructor_of c)))

  abbrev NewParts : List ℕ → List Expr → Option At → Sort → Type 0
  NewParts b es place s =
      (sorts : List Sort) × Pairwise (HasSort env) es sorts × LocationParts place env × (is_handler env.member ≡ true) × (constructor_accepts (behavior_with_name b env) sorts env ≡ true) × (plain (Actor b) ≡ s)

  new_inverts : (b : List ℕ) (es : List Expr) (place : Option At) (s : Sort) → all_regular (map shape_of es) && or_true (option_map at_is_regular place) ≡ true → NewParts b es place s
      → (k : ℕ) × ((behavior_by_name b env.behaviors ≡ Some k) × (j.ArgsOf Judgement SuffixJudgement makes es here (makes k) × (j.PlaceOf Judgement SuffixJudgement makes place here × (Some (actor k) ≡ num s))))
  new_inverts b es place s r h =
      let q = and_parts (all_regular (map shape_of es)) (or_true (option_map at_is_regular place)) r in
      let m = constructors_take env known.few b h.0 h.4 in
      (m.number, (m.numbered, (new_args b es h.0 q.0 h.1 m.number (Some m.behavior) m.is_there m.fit, (place_fits place q.1 h.2, sym (n.actor_kind env.behaviors b m.number m.numbered) ∙ ap num h.5))))

  array_of : (t : TypeName) (s : Sort) (a : n.IsArrayType env.behaviors t s) → j.ArrayOf Judgement SuffixJudgement makes (type_sort t env.behaviors) (num s) a.array.base a.array.dims
  array_of t s a = (a.written ∙ a.array.whole, a.written)

  -- ---- each form

  abbrev I : Expr-F Expr Suffix At Operand → Kind → Type 0
  I z k = j.Inverts Judgement SuffixJudgement makes z here k

  inverts : (z : Expr-F Expr Suffix At Operand) (minus : Bool) (s : Sort) → expr_verdict (roll-Expr z) env minus ≡ Good s → (regular.shape_step (shapes z)).regular ≡ true → ExprParts z env minus s → I z (num s)
  inverts (Expr-F.Number k at) minus s g r h = sym (n.int_kind env.behaviors) ∙ ap num h.1
  inverts (Expr-F.Str t at) minus s g r h = sym (n.text_kind env.behaviors) ∙ ap num h
  inverts (Expr-F.Bool b at) minus s g r h = sym (n.boolean_kind env.behaviors) ∙ ap num h
  inverts (Expr-F.Null at) minus s g r h = sym (n.null_kind env.behaviors) ∙ ap num h
  inverts (Expr-F.Me at) minus s g r h = sym (n.actor_kind env.behaviors env.own mine known.own) ∙ ap num h.1
  inverts (Expr-F.Name name) minus s g r h = let q = name_stands name.text env mine known h.0 h.1 in value_kind h.0 s (name_sort name.text here) q.is q.known h.2 h.3
  inverts (Expr-F.Own at name) minus s g r h = own_kind at name minus s g h
  inverts (Expr-F.Paren at e) minus s g r h = judged e false s r h
  inverts (Expr-F.Neg at e) minus s g r h = (has_kind e true (plain Int) (ranked regular.unary (shape_of e) r) h.0, sym (n.int_kind env.behaviors) ∙ ap num h.1)
  inverts (Expr-F.Not at e) minus s g r h = (has_kind e false (plain Boolean) (ranked regular.unary (shape_of e) r) h.0, sym (n.boolean_kind env.behaviors) ∙ ap num h.1)
  inverts (Expr-F.Level first []) minus s g r h = absurd cc
  inverts (Expr-F.Level first (p ∷ ps)) minus s g r h =
      let rank = (ranked_operand p).rank in
      let q = and_parts (has_rank (suc rank) (shape_of first)) (list_all (is_operand_at rank) (map ranked_operand (p ∷ ps))) r in
      (num h.0, (judged first false h.0 (ranked (suc rank) (shape_of first) q.0) h.1, level_fits rank (p ∷ ps) h.0 s (sort_known first false h.0 h.1) q.1 h.2))
  inverts (Expr-F.Suffixed first []) minus s g r h = absurd cc
  inverts (Expr-F.Suffixed first (x ∷ xs)) minus s g r h =
      let q = and_parts (has_rank regular.primary (shape_of first)) (all_true (map suffix_is_regular (x ∷ xs))) r in
      (num h.0, (judged first minus h.0 (ranked regular.primary (shape_of first) q.0) h.1, suffixes_fit (x ∷ xs) h.0 s (sort_known first minus h.0 h.1) q.1 h.2))
  inverts (Expr-F.New at b es None) minus s g r h = new_inverts b.text es None s r h
  inverts (Expr-F.New at b es (Some p)) minus s g r h = new_inverts b.text es (Some p) s r h
  inverts (Expr-F.Make at t size) minus s g r h =
      let q = and_parts (nat_le 1 t.dims) (shape_of size).regular r in
      let a = n.array_type env.behaviors env refl known.few t s h.0 q.0 in
      (a.array.base, (a.array.dims, (has_kind size false (plain Int) q.1 h.1, array_of t s a)))
  inverts (Expr-F.ListOf at t es) minus s g r h =
      let q = and_parts (nat_le 1 t.dims) (all_regular (map shape_of es)) r in
      let a = n.array_type env.behaviors env refl known.few t s h.1 q.0 in
      (a.array.base, (a.array.dims, (items_fit es h.0 (item_sort s) (record { base = a.array.base; dims = a.array.dims }) a.array.item a.no_null q.1 h.2 h.3, array_of t s a)))
  inverts (Expr-F.ByName at cast b e) minus s g r h =
      let q = and_parts (regular.first_place at cast b) (shape_of e).regular r in
      let k = number_of_known b.text env known.few h.2 in
      (k.0, (has_kind e false (plain Str) q.1 h.0, sym (n.actor_kind env.behaviors b.text k.0 k.1) ∙ ap num h.4))

  suffix_inverts : (z : Suffix-F Expr Suffix At Operand) (a s : Sort) → IsExprSort a env.behaviors → regular.suffix_step (map-Suffix Expr Suffix At Operand Shape Bool Bool RankedOperand shape_of suffix_is_regular at_is_regular ranked_operand z) ≡ true → SuffixParts z env a s → j.InvertsSuffix Judgement SuffixJudgement makes z here (num a) (num s)
  suffix_inverts (Suffix-F.Index at e) a s k r h =
      let p = n.array_parts env.behaviors a k h.1 in
      (p.base, (p.dims, (sym p.whole, (sym p.item ∙ ap num h.2, has_kind e false (plain Int) r h.0))))
  suffix_inverts (Suffix-F.Length at) a s k r h = sym (n.int_kind env.behaviors) ∙ ap num h.1

  pub judges : j.Judges Judgement SuffixJudgement makes
  judges = record {
    exprs = λ z sc k h.
        let parts : ExprParts z env h.minus h.sort = subst (λ y. ExprParts y env h.minus h.sort) (out_expr z) (have_parts env (roll-Expr z) h.minus h.sort h.good) in
        subst (λ q. j.Inverts Judgement SuffixJudgement makes z q k) h.scope (subst (I z) h.kind (inverts z h.minus h.sort h.good (form_regular z h.regular) parts));
    suffixes = λ z sc a k h.
        let parts : SuffixParts z env h.from h.to = subst (λ y. SuffixParts y env h.from h.to) (out_suffix z) h.parts in
        subst (λ q. j.InvertsSuffix Judgement SuffixJudgement makes z q a k) h.scope (subst (λ q. j.InvertsSuffix Judgement SuffixJudgement makes z here q k) h.starts (subst (λ q. j.InvertsSuffix Judgement SuffixJudgement makes z here (num h.from) q) h.gives (suffix_inverts z h.from h.to h.origin (suffix_regular z h.regular) parts)));
  }
