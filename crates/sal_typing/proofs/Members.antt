-- The members of a typed program.
use Rattle.std.proofs.Common.{◌≡◌, inl, ℕ, zero, suc, ◌+◌, ◌<◌, ◌≤◌, Bool, true, false, not, ◌||◌, cond, nat_lt, List, [], ◌∷◌, ◌++◌, append_assoc, length, map, filter_map, Option, Some, None, refl, sym, ap, subst, ◌∙◌, arith}
use Rattle.std.specs.Prelude.{slice_get}
use Rattle.std.specs.List.{list_any, position, position_or_len, cons_option}
use Rattle.std.specs.Str.{bytes_eq}
use Rattle.std.proofs.lemmas.Bool.{not-true, ltb-true, lt-ltb}
use Rattle.std.proofs.lemmas.List.{length-append, length-map}
use Rattle.sal_ast.specs.declared.program.Ident.{Ident}
use Rattle.sal_ast.specs.declared.program.TypeName.{TypeName}
use Rattle.sal_ast.specs.declared.program.Param.{Param}
use Rattle.sal_ast.specs.declared.program.Member.{Member}
use Rattle.sal_ast.specs.declared.program.Member.TheVariants as m
use Rattle.sal_ast.specs.declared.program.Behavior.{Behavior}
use Rattle.sal_ast.specs.declared.program.Program.{Program}
use Rattle.sal_ast.specs.declared.expression.Expr.{Expr}
use Rattle.sal_ast.specs.declared.statement.Stmt.{Stmt}
use Rattle.sal_ast.specs.Members.{Field, Handler, as_field, as_handler, as_constructor, fields_of, handlers_of, constructor_of, valid_number, behavior_by_name}
use Rattle.sal_ast.specs.Sorts.{type_sort, result_sort}
use Rattle.sal_sorts.specs.declared.sort.Base.TheVariants.{Void}
use Rattle.sal_sorts.specs.declared.sort.Sort.{Sort}
use Rattle.sal_sorts.specs.declared.variable.Variable.{Variable}
use Rattle.sal_sorts.specs.declared.variable.MemberKind.{MemberKind}
use Rattle.sal_sorts.specs.declared.variable.MemberKind.TheVariants as kind
use Rattle.sal_sorts.specs.Sorts.{plain, sort_of_type, sort_of_result}
use Rattle.sal_sorts.specs.Environments.{Environment, member_environment, with_variable, is_free, is_migrate}
use Rattle.sal_sorts.specs.Expressions.{type_verdict, expr_verdict_if}
use Rattle.sal_sorts.specs.Verdicts.{Violation, Verdict, Good, ◌also◌}
use Rattle.sal_types.specs.Statements.{no_results, free_rules, initial_rules, sequence_verdict, stmt_typings}
use Rattle.sal_types.specs.Members.{count_rules, second_rules, is_among, param_typing, body_verdict, field_rules, field_verdict, constructor_name_rules, constructor_verdict, migrate_rules, end_rules, result_verdict, declared_handler_rules, handler_verdict, field_names, handler_names, member_verdict, members_verdict}
use Rattle.sal_types.specs.Programs.{behavior_names, behavior_name_rules, behavior_verdict, behaviors_verdict, start_rules, program_verdict, violations_of}
use Rattle.sal_types.proofs.Start.{has_start}
use Rattle.sal_typing.specs.Known.{Each, IsThere, FieldIsKnown, HandlerIsKnown, MembersAreKnown, IsReplySort, IsKnown}
use Rattle.sal_typing.specs.StatementParts.{SequenceParts}
use Rattle.sal_typing.specs.Members.{with_params, BodyIsTyped, FieldIsTyped, BehaviorIsTyped, ProgramsHaveParts}
use Rattle.sal_typing.proofs.Inverting.{good_is, some_is, also_parts, node_parts, map_parts, rule_holds, none_left, none_right, none_in}
use Rattle.sal_typing.proofs.Finding.{each_at, bytes_turn, bytes_are}
use Rattle.sal_typing.proofs.Numbering.{number_valid, type_is_value, result_is_reply}
use Rattle.sal_typing.proofs.Expressions.{type_parts}
use Rattle.sal_typing.proofs.Scopes.{known_with}
use Rattle.sal_typing.proofs.StatementParts.{written_parts, value_parts, sequence_parts}

-- ---- the first of a name

names_apart : (name : List ℕ) (names : List (List ℕ)) → list_any (bytes_eq name) names ≡ false → Each (λ n. bytes_eq n name ≡ false) names
names_apart name [] h = tt
names_apart name (n ∷ ns) h = by (bytes_eq name n) refl h (λ k. names_apart name ns k)
  where
    by : (b : Bool) → bytes_eq name n ≡ b → (b || list_any (bytes_eq name) ns) ≡ false → (list_any (bytes_eq name) ns ≡ false → Each (λ x. bytes_eq x name ≡ false) ns) → (bytes_eq n name ≡ false) × Each (λ x. bytes_eq x name ≡ false) ns
    by true e k more = absurd cc
    by false e k more = (bytes_turn name n e, more k)

passed_by : {X : Type 0} (p : X → Bool) (before : List X) (x : X) (rest : List X) → Each (λ y. p y ≡ false) before → p x ≡ true → position_or_len p (before ++ x ∷ rest) ≡ length before
passed_by p [] x rest each e = rw e refl
passed_by p (y ∷ ys) x rest each e =
    let more : position_or_len p (ys ++ x ∷ rest) ≡ length ys = passed_by p ys x rest each.1 e in
    rw each.0 (omega (arith, more))

each_named : (name : List ℕ) (bs : List Behavior) → Each (λ n. bytes_eq n name ≡ false) (behavior_names bs) → Each (λ (b : Behavior). bytes_eq b.name.text name ≡ false) bs
each_named name [] h = tt
each_named name (b ∷ bs) h = (h.0, each_named name bs h.1)

first_of_name : (before : List Behavior) (b : Behavior) (rest : List Behavior) → length (before ++ b ∷ rest) ≤ 64 → is_among b.name.text (behavior_names before) ≡ false → behavior_by_name b.name.text (before ++ b ∷ rest) ≡ Some (length before)
unfolding behavior_by_name
first_of_name before b rest few h =
    let p : Behavior → Bool = λ x. bytes_eq x.name.text b.name.text in
    let at : position_or_len p (before ++ b ∷ rest) ≡ length before = passed_by p before b rest (each_named b.name.text before (names_apart b.name.text (behavior_names before) h)) (bytes_are b.name.text b.name.text refl) in
    let many : length (before ++ b ∷ rest) ≡ length before + length (b ∷ rest) = length-append before (b ∷ rest) in
    let within : position_or_len p (before ++ b ∷ rest) < length (before ++ b ∷ rest) = omega (arith, at, many) in
    let small : length before < 64 = omega (arith, few, many) in
    let there : position p (before ++ b ∷ rest) ≡ Some (length before) = ap (λ t. cond t (Some (position_or_len p (before ++ b ∷ rest))) None) (lt-ltb (position_or_len p (before ++ b ∷ rest)) (length (before ++ b ∷ rest)) within) ∙ ap (λ n. Some n) at in
    ap valid_number there ∙ number_valid (length before) small

-- ---- parameters and bodies

pub params_parts : (params : List Param) (body : List Stmt) (env : Environment) (mine : ℕ) (rs : List Sort) → IsKnown env mine → length env.scope ≤ 16 → sequence_verdict (map param_typing params ++ stmt_typings body) env ≡ Good rs
    → (length env.scope + length params ≤ 16) × IsKnown (with_params env params) mine × ((out : List Sort) × SequenceParts body (with_params env params) out)
params_parts [] body env mine rs h few g = (omega arith, h, (rs, sequence_parts body env rs g))
params_parts (q ∷ qs) body env mine rs h few g =
    let inner : Environment = with_variable env (param_typing q env).0 in
    let rest : Verdict (List Sort) = sequence_verdict (map param_typing qs ++ stmt_typings body) inner in
    let p = map_parts (λ x. x.0 ++ x.1) ((param_typing q env).1 also rest) rs g in
    let both = also_parts (param_typing q env).1 rest p.0 p.1 in
    let n = node_parts (type_verdict q.sort env) (λ s. count_rules 16 (length env.scope) q.name.at ++ free_rules q.name env) no_results p.0.0 both.left in
    let written = type_parts q.sort env n.part h.few n.typed in
    let count = rule_holds 2 q.name.at (nat_lt (length env.scope) 16) (none_left (count_rules 16 (length env.scope) q.name.at) (free_rules q.name env) n.keeps) in
    let free = rule_holds 9 q.name.at (is_free q.name.text env) (none_right (count_rules 16 (length env.scope) q.name.at) (free_rules q.name env) n.keeps) in
    let v : Variable = record { name = q.name.text; sort = sort_of_type q.sort; is_token = false } in
    let known = known_with env mine v h (type_is_value q.sort env.behaviors written.1) free in
    let lt : length env.scope < 16 = ltb-true (length env.scope) 16 count in
    let more : length (env.scope ++ v ∷ []) ≡ length env.scope + 1 = length-append env.scope (v ∷ []) in
    let few_more : length (env.scope ++ v ∷ []) ≤ 16 = omega (arith, lt, more) in
    let r = params_parts qs body inner mine p.0.1 known few_more both.right in
    let all : length (env.scope ++ v ∷ []) + length qs ≤ 16 = r.0 in
    (omega (arith, all, more), r.1, r.2)

-- each parameter's type is known
params_known : (params : List Param) (body : List Stmt) (env : Environment) (rs : List Sort) → length env.behaviors ≤ 64 → sequence_verdict (map param_typing params ++ stmt_typings body) env ≡ Good rs → Each (λ (q : Param). IsThere (type_sort q.sort env.behaviors)) params
params_known [] body env rs few g = tt
params_known (q ∷ qs) body env rs few g =
    let inner : Environment = with_variable env (param_typing q env).0 in
    let rest : Verdict (List Sort) = sequence_verdict (map param_typing qs ++ stmt_typings body) inner in
    let p = map_parts (λ x. x.0 ++ x.1) ((param_typing q env).1 also rest) rs g in
    let both = also_parts (param_typing q env).1 rest p.0 p.1 in
    let n = node_parts (type_verdict q.sort env) (λ s. count_rules 16 (length env.scope) q.name.at ++ free_rules q.name env) no_results p.0.0 both.left in
    ((type_parts q.sort env n.part few n.typed).1, params_known qs body inner p.0.1 few both.right)

body_parts : (params : List Param) (body : List Stmt) (env : Environment) (mine : ℕ) (rs : List Sort) → IsKnown env mine → length env.scope ≡ 0 → body_verdict params body env ≡ Good rs → BodyIsTyped env mine params body
body_parts params body env mine rs h none g =
    let some : length env.scope ≤ 16 = omega (arith, none) in
    let r = params_parts params body env mine rs h some g in
    record { few = omega (arith, r.0, none); known = r.1; results = r.2.0; parts = r.2.1 }

-- ---- members

-- a member is typed after those before it
record MemberIsGood (behaviors : List Behavior) (own : List ℕ) (x : Member) : Type 0 where
  pub before : List Member
  pub good : member_verdict behaviors own before x ≡ Good tt

members_good : (behaviors : List Behavior) (own : List ℕ) (before ms : List Member) → members_verdict behaviors own before ms ≡ Good tt → Each (MemberIsGood behaviors own) ms
members_good behaviors own before [] h = tt
members_good behaviors own before (x ∷ ms) h =
    let p = map_parts (λ q. tt) (member_verdict behaviors own before x also members_verdict behaviors own (before ++ x ∷ []) ms) tt h in
    let both = also_parts (member_verdict behaviors own before x) (members_verdict behaviors own (before ++ x ∷ []) ms) p.0 p.1 in
    (record { before = before; good = both.left }, members_good behaviors own (before ++ x ∷ []) ms both.right)

pub each_kept : {X Y : Type 0} (P : X → Type 0) (Q : Y → Type 0) (f : X → Option Y) → ((x : X) (y : Y) → P x → f x ≡ Some y → Q y) → (xs : List X) → Each P xs → Each Q (filter_map f xs)
each_kept P Q f step [] h = tt
each_kept {X} {Y} P Q f step (x ∷ xs) h = by (f x) refl (each_kept P Q f step xs h.1)
  where
    by : (o : Option Y) → f x ≡ o → Each Q (filter_map f xs) → Each Q (cons_option o (filter_map f xs))
    by None e more = more
    by (Some y) e more = (step x y h.0 e, more)

module _ (behaviors : List Behavior) (own : List ℕ) where
  abbrev initial : Environment
  initial = member_environment behaviors own kind.Initialiser (plain Void)

  abbrev making : Environment
  making = member_environment behaviors own kind.Constructor (plain Void)

  abbrev handling : Option TypeName → Environment
  handling result = member_environment behaviors own kind.Handler (sort_of_result result)

  field_step : (Q : Field → Type 0) → ((before : List (List ℕ)) (sort : TypeName) (name : Ident) (init : Option Expr) → field_verdict before sort name init initial ≡ Good tt → Q (record { name = name.text; sort = sort; init = init }))
      → (x : Member) (f : Field) → MemberIsGood behaviors own x → as_field x ≡ Some f → Q f
  field_step Q step (m.Field sort name init) f h e = subst Q (some_is (record { name = name.text; sort = sort; init = init }) f e) (step (field_names h.before) sort name init h.good)
  field_step Q step (m.Constructor name params body) f h e = absurd cc
  field_step Q step (m.Handler result name params body) f h e = absurd cc

  constructor_step : (Q : Handler → Type 0) → ((before : ℕ) (name : Ident) (params : List Param) (body : List Stmt) → constructor_verdict before name params body making ≡ Good tt → Q (record { name = name.text; result = None; params = params; body = body }))
      → (x : Member) (c : Handler) → MemberIsGood behaviors own x → as_constructor x ≡ Some c → Q c
  constructor_step Q step (m.Field sort name init) c h e = absurd cc
  constructor_step Q step (m.Constructor name params body) c h e =
      subst Q (some_is (record { name = name.text; result = None; params = params; body = body }) c e) (step (length (filter_map as_constructor h.before)) name params body h.good)
  constructor_step Q step (m.Handler result name params body) c h e = absurd cc

  handler_step : (Q : Handler → Type 0) → ((before : List (List ℕ)) (result : Option TypeName) (name : Ident) (params : List Param) (body : List Stmt) → handler_verdict before result name params body (handling result) ≡ Good tt → Q (record { name = name.text; result = result; params = params; body = body }))
      → (x : Member) (c : Handler) → MemberIsGood behaviors own x → as_handler x ≡ Some c → Q c
  handler_step Q step (m.Field sort name init) c h e = absurd cc
  handler_step Q step (m.Constructor name params body) c h e = absurd cc
  handler_step Q step (m.Handler result name params body) c h e =
      subst Q (some_is (record { name = name.text; result = result; params = params; body = body }) c e) (step (handler_names h.before) result name params body h.good)

  -- ---- types that members write

  field_known : length behaviors ≤ 64 → (before : List (List ℕ)) (sort : TypeName) (name : Ident) (init : Option Expr) → field_verdict before sort name init initial ≡ Good tt → IsThere (type_sort sort behaviors)
  field_known few before sort name init h =
      let n = node_parts (type_verdict sort initial also expr_verdict_if init initial) (λ p. field_rules before name ++ initial_rules init p.1 p.0 initial) (λ p. tt) tt h in
      let both = also_parts (type_verdict sort initial) (expr_verdict_if init initial) n.part n.typed in
      (type_parts sort initial n.part.0 few both.left).1

  result_known : (result : Option TypeName) (s : Sort) → length behaviors ≤ 64 → result_verdict result (handling result) ≡ Good s → IsThere (result_sort result behaviors)
  result_known None s few h = (_, refl)
  result_known (Some t) s few h = (type_parts t (handling (Some t)) s few h).1

  -- the parts of a handler
  record HandlerParts (before : List (List ℕ)) (result : Option TypeName) (name : Ident) (params : List Param) (body : List Stmt) : Type 0 where
    pub sort : Sort
    pub gives : result_verdict result (handling result) ≡ Good sort
    pub results : List Sort
    pub whole : body_verdict params body (handling result) ≡ Good results
    pub rules : declared_handler_rules before name sort body ≡ []

  handler_parts : (before : List (List ℕ)) (result : Option TypeName) (name : Ident) (params : List Param) (body : List Stmt) → handler_verdict before result name params body (handling result) ≡ Good tt → HandlerParts before result name params body
  handler_parts before result name params body h =
      let n = node_parts (result_verdict result (handling result) also body_verdict params body (handling result)) (λ p. declared_handler_rules before name p.0 body) (λ p. tt) tt h in
      let both = also_parts (result_verdict result (handling result)) (body_verdict params body (handling result)) n.part n.typed in
      record { sort = n.part.0; gives = both.left; results = n.part.1; whole = both.right; rules = n.keeps }

  handler_known : length behaviors ≤ 64 → (before : List (List ℕ)) (result : Option TypeName) (name : Ident) (params : List Param) (body : List Stmt) → handler_verdict before result name params body (handling result) ≡ Good tt
      → HandlerIsKnown behaviors (record { name = name.text; result = result; params = params; body = body })
  handler_known few before result name params body h =
      let p = handler_parts before result name params body h in
      (params_known params body (handling result) p.results few p.whole, result_known result p.sort few p.gives)

  members_known : length behaviors ≤ 64 → (ms : List Member) → Each (MemberIsGood behaviors own) ms → Each (FieldIsKnown behaviors) (filter_map as_field ms) × Each (HandlerIsKnown behaviors) (filter_map as_handler ms)
  members_known few ms each = (
    each_kept (MemberIsGood behaviors own) (FieldIsKnown behaviors) as_field (field_step (FieldIsKnown behaviors) (field_known few)) ms each,
    each_kept (MemberIsGood behaviors own) (HandlerIsKnown behaviors) as_handler (handler_step (HandlerIsKnown behaviors) (handler_known few)) ms each,
  )

  -- ---- how many members there are

  kept_more : {Y : Type 0} (f : Member → Option Y) (before : List Member) (x : Member) → length (filter_map f (before ++ x ∷ [])) ≡ length (filter_map f before) + length (cons_option (f x) [])
  kept_more f [] x = omega arith
  kept_more {Y} f (y ∷ ys) x = by (f y) (kept_more f ys x)
    where
      by : (o : Option Y) → length (filter_map f (ys ++ x ∷ [])) ≡ length (filter_map f ys) + length (cons_option (f x) []) → length (cons_option o (filter_map f (ys ++ x ∷ []))) ≡ length (cons_option o (filter_map f ys)) + length (cons_option (f x) [])
      by None e = e
      by (Some z) e = omega (arith, e)

  kept_first : {Y : Type 0} (o : Option Y) (rest : List Y) → length (cons_option o rest) ≡ length (cons_option o []) + length rest
  kept_first None rest = omega arith
  kept_first (Some y) rest = omega arith

  few_kept : {Y : Type 0} (f : Member → Option Y) → ((before : List Member) (x : Member) (y : Y) → member_verdict behaviors own before x ≡ Good tt → f x ≡ Some y → length (filter_map f before) < 64)
      → (before ms : List Member) → length (filter_map f before) ≤ 64 → members_verdict behaviors own before ms ≡ Good tt → length (filter_map f before) + length (filter_map f ms) ≤ 64
  few_kept f step before [] few h = omega arith
  few_kept {Y} f step before (x ∷ ms) few h =
      let p = map_parts (λ q. tt) (member_verdict behaviors own before x also members_verdict behaviors own (before ++ x ∷ []) ms) tt h in
      let both = also_parts (member_verdict behaviors own before x) (members_verdict behaviors own (before ++ x ∷ []) ms) p.0 p.1 in
      let more = kept_more f before x in
      let one = by (f x) refl both.left in
      let few_more : length (filter_map f (before ++ x ∷ [])) ≤ 64 = omega (arith, more, one) in
      let all = few_kept f step (before ++ x ∷ []) ms few_more both.right in
      omega (arith, all, more, kept_first (f x) (filter_map f ms))
    where
      by : (o : Option Y) → f x ≡ o → member_verdict behaviors own before x ≡ Good tt → length (filter_map f before) + length (cons_option (f x) []) ≤ 64
      by None e g = let z : length (cons_option (f x) []) ≡ 0 = ap (λ o. length (cons_option o [])) e in omega (arith, z, few)
      by (Some y) e g =
          let z : length (cons_option (f x) []) ≡ 1 = ap (λ o. length (cons_option o [])) e in
          let s : length (filter_map f before) < 64 = step before x y g e in
          omega (arith, z, s)

  names_are : {X : Type 0} (f : X → List ℕ) (xs : List X) → length (map f xs) ≡ length xs
  names_are f xs = length-map xs f

  field_counted : (before : List Member) (x : Member) (y : Field) → member_verdict behaviors own before x ≡ Good tt → as_field x ≡ Some y → length (filter_map as_field before) < 64
  field_counted before (m.Field sort name init) y h e =
      let n = node_parts (type_verdict sort initial also expr_verdict_if init initial) (λ p. field_rules (field_names before) name ++ initial_rules init p.1 p.0 initial) (λ p. tt) tt h in
      let count = rule_holds 2 name.at (nat_lt (length (field_names before)) 64)
      (none_left (count_rules 64 (length (field_names before)) name.at) (second_rules name.at (is_among name.text (field_names before))) (none_left (field_rules (field_names before) name) (initial_rules init n.part.1 n.part.0 initial) n.keeps)) in
      let lt : length (field_names before) < 64 = ltb-true (length (field_names before)) 64 count in
      let same : length (field_names before) ≡ length (filter_map as_field before) = names_are (λ (f : Field). f.name) (filter_map as_field before) in
      omega (arith, lt, same)
  field_counted before (m.Constructor name params body) y h e = absurd cc
  field_counted before (m.Handler result name params body) y h e = absurd cc

  handler_counted : (before : List Member) (x : Member) (y : Handler) → member_verdict behaviors own before x ≡ Good tt → as_handler x ≡ Some y → length (filter_map as_handler before) < 64
  handler_counted before (m.Field sort name init) y h e = absurd cc
  handler_counted before (m.Constructor name params body) y h e = absurd cc
  handler_counted before (m.Handler result name params body) y h e =
      let names : List (List ℕ) = handler_names before in
      let p = handler_parts names result name params body h in
      let a : List Violation = count_rules 64 (length names) name.at in
      let b : List Violation = second_rules name.at (is_among name.text names) in
      let count = rule_holds 2 name.at (nat_lt (length names) 64) (none_left a b (none_left (a ++ b) (migrate_rules name) (none_left (a ++ b ++ migrate_rules name) (end_rules name p.sort body) p.rules))) in
      let lt : length names < 64 = ltb-true (length names) 64 count in
      let same : length names ≡ length (filter_map as_handler before) = names_are (λ (f : Handler). f.name) (filter_map as_handler before) in
      omega (arith, lt, same)

  -- ---- each member

  module _ (mine : ℕ) (few : length behaviors ≤ 64) (numbered : behavior_by_name own behaviors ≡ Some mine) (members : Each (MembersAreKnown behaviors) behaviors) where
    known_in : (k : MemberKind) (result : Sort) → IsReplySort result behaviors → IsKnown (member_environment behaviors own k result) mine
    known_in k result reply = record { few = few; own = numbered; members = members; result = reply; scope = tt; distinct = tt }

    field_typed : (before : List (List ℕ)) (sort : TypeName) (name : Ident) (init : Option Expr) → field_verdict before sort name init initial ≡ Good tt → FieldIsTyped initial mine (record { name = name.text; sort = sort; init = init })
    field_typed before sort name init h =
        let n = node_parts (type_verdict sort initial also expr_verdict_if init initial) (λ p. field_rules before name ++ initial_rules init p.1 p.0 initial) (λ p. tt) tt h in
        let both = also_parts (type_verdict sort initial) (expr_verdict_if init initial) n.part n.typed in
        let written = written_parts initial sort n.part.0 both.left in
        let is : n.part.0 ≡ sort_of_type sort = good_is n.part.0 (sort_of_type sort) (sym both.left ∙ written) in
        let fits = ap (λ x. initial_rules init n.part.1 x initial) (sym is) ∙ none_right (field_rules before name) (initial_rules init n.part.1 n.part.0 initial) n.keeps in
        record { known = known_in kind.Initialiser (plain Void) (inl refl); written = written; value = value_parts init initial n.part.1 (sort_of_type sort) both.right fits }

    abbrev ConstructorIsTyped : Handler → Type 0
    ConstructorIsTyped c = BodyIsTyped making mine c.params c.body

    constructor_typed : (before : ℕ) (name : Ident) (params : List Param) (body : List Stmt) → constructor_verdict before name params body making ≡ Good tt → BodyIsTyped making mine params body
    constructor_typed before name params body h =
        let n = node_parts (body_verdict params body making) (λ p. second_rules name.at (nat_lt 0 before) ++ constructor_name_rules name own) (λ p. tt) tt h in
        body_parts params body making mine n.part (known_in kind.Constructor (plain Void) (inl refl)) refl n.typed

    abbrev HandlerIsTyped : Handler → Type 0
    HandlerIsTyped h = BodyIsTyped (handling h.result) mine h.params h.body × (is_migrate h.name ≡ false)

    handler_typed : (before : List (List ℕ)) (result : Option TypeName) (name : Ident) (params : List Param) (body : List Stmt) → handler_verdict before result name params body (handling result) ≡ Good tt
        → HandlerIsTyped (record { name = name.text; result = result; params = params; body = body })
    unfolding is_migrate
    handler_typed before result name params body h =
        let p = handler_parts before result name params body h in
        let a : List Violation = count_rules 64 (length before) name.at ++ second_rules name.at (is_among name.text before) in
        let other = rule_holds 5 name.at _ (none_right a (migrate_rules name) (none_left (a ++ migrate_rules name) (end_rules name p.sort body) p.rules)) in
        let reply = result_is_reply result behaviors (result_known result p.sort few p.gives) in
        (body_parts params body (handling result) mine p.results (known_in kind.Handler (sort_of_result result) reply) refl p.whole, not-true _ other)

-- ---- behaviours

module _ (p : Program) (few : length p.behaviors ≤ 64) where
  abbrev bs : List Behavior
  bs = p.behaviors

  -- the members of each behaviour
  behaviors_members : (before rest : List Behavior) → behaviors_verdict bs before rest ≡ Good tt → Each (λ (b : Behavior). members_verdict bs b.name.text [] b.members ≡ Good tt) rest
  behaviors_members before [] h = tt
  behaviors_members before (b ∷ rest) h =
      let q = map_parts (λ x. tt) (behavior_verdict bs before b also behaviors_verdict bs (before ++ b ∷ []) rest) tt h in
      let both = also_parts (behavior_verdict bs before b) (behaviors_verdict bs (before ++ b ∷ []) rest) q.0 q.1 in
      let n = node_parts (members_verdict bs b.name.text [] b.members) (λ u. behavior_name_rules b.name before ++ count_rules 64 (length before) b.name.at) (λ u. tt) tt both.left in
      (n.typed, behaviors_members (before ++ b ∷ []) rest both.right)

  all_known : (rest : List Behavior) → Each (λ (b : Behavior). members_verdict bs b.name.text [] b.members ≡ Good tt) rest → Each (MembersAreKnown bs) rest
  unfolding fields_of handlers_of
  all_known [] each = tt
  all_known (b ∷ rest) each = (members_known bs b.name.text few b.members (members_good bs b.name.text [] b.members each.0), all_known rest each.1)

  -- each has its number by its name
  numbers : (before rest : List Behavior) → before ++ rest ≡ bs → behaviors_verdict bs before rest ≡ Good tt → (k : ℕ) (b : Behavior) → slice_get rest k ≡ Some b → behavior_by_name b.name.text bs ≡ Some (length before + k)
  numbers before [] e h k b g = absurd cc
  numbers before (x ∷ rest) e h k b g =
      let q = map_parts (λ y. tt) (behavior_verdict bs before x also behaviors_verdict bs (before ++ x ∷ []) rest) tt h in
      let both = also_parts (behavior_verdict bs before x) (behaviors_verdict bs (before ++ x ∷ []) rest) q.0 q.1 in
      let n = node_parts (members_verdict bs x.name.text [] x.members) (λ u. behavior_name_rules x.name before ++ count_rules 64 (length before) x.name.at) (λ u. tt) tt both.left in
      let other = not-true (is_among x.name.text (behavior_names before)) (rule_holds 1 x.name.at (not (is_among x.name.text (behavior_names before))) (none_left (behavior_name_rules x.name before) (count_rules 64 (length before) x.name.at) n.keeps)) in
      let small : length (before ++ x ∷ rest) ≤ 64 = subst (λ l. length l ≤ 64) (sym e) few in
      let here : behavior_by_name x.name.text bs ≡ Some (length before) = subst (λ l. behavior_by_name x.name.text l ≡ Some (length before)) e (first_of_name before x rest small other) in
      at k g here (λ j i. numbers (before ++ x ∷ []) rest (append_assoc before (x ∷ []) rest ∙ e) both.right j b i)
    where
      at : (k : ℕ) → slice_get (x ∷ rest) k ≡ Some b → behavior_by_name x.name.text bs ≡ Some (length before)
          → ((j : ℕ) → slice_get rest j ≡ Some b → behavior_by_name b.name.text bs ≡ Some (length (before ++ x ∷ []) + j)) → behavior_by_name b.name.text bs ≡ Some (length before + k)
      at zero i here more =
          let same : x ≡ b = some_is x b i in
          let sum : length before ≡ length before + 0 = omega arith in
          subst (λ (y : Behavior). behavior_by_name y.name.text bs ≡ Some (length before + 0)) same (here ∙ ap (λ n. Some n) sum)
      at (suc j) i here more =
          let one : length (before ++ x ∷ []) ≡ length before + 1 = length-append before (x ∷ []) in
          let sum : length (before ++ x ∷ []) + j ≡ length before + suc j = omega (arith, one) in
          more j i ∙ ap (λ n. Some n) sum

  behavior_typed : behaviors_verdict bs [] bs ≡ Good tt → (n : ℕ) (b : Behavior) → slice_get bs n ≡ Some b → BehaviorIsTyped p b n
  unfolding fields_of handlers_of constructor_of
  behavior_typed h n b g =
      let verdicts = behaviors_members [] bs h in
      let good : members_verdict bs b.name.text [] b.members ≡ Good tt = each_at (λ (x : Behavior). members_verdict bs x.name.text [] x.members ≡ Good tt) bs n b verdicts g in
      let each = members_good bs b.name.text [] b.members good in
      let known = all_known bs verdicts in
      let first : behavior_by_name b.name.text bs ≡ Some (0 + n) = numbers [] bs refl h n b g in
      let sum : 0 + n ≡ n = omega arith in
      let numbered : behavior_by_name b.name.text bs ≡ Some n = first ∙ ap (λ k. Some k) sum in
      let fields = each_kept (MemberIsGood bs b.name.text) (FieldIsTyped (initial bs b.name.text) n) as_field (field_step bs b.name.text (FieldIsTyped (initial bs b.name.text) n) (field_typed bs b.name.text n few numbered known)) b.members each in
      let made = each_kept (MemberIsGood bs b.name.text) (ConstructorIsTyped bs b.name.text n few numbered known) as_constructor (constructor_step bs b.name.text (ConstructorIsTyped bs b.name.text n few numbered known) (constructor_typed bs b.name.text n few numbered known)) b.members each in
      let handled = each_kept (MemberIsGood bs b.name.text) (HandlerIsTyped bs b.name.text n few numbered known) as_handler (handler_step bs b.name.text (HandlerIsTyped bs b.name.text n few numbered known) (handler_typed bs b.name.text n few numbered known)) b.members each in
      let fs = few_kept bs b.name.text as_field (field_counted bs b.name.text) [] b.members (omega arith) good in
      let hs = few_kept bs b.name.text as_handler (handler_counted bs b.name.text) [] b.members (omega arith) good in
      record {
        numbered = numbered;
        few_fields = omega (arith, fs);
        few_handlers = omega (arith, hs);
        fields = λ k f i. each_at (FieldIsTyped (initial bs b.name.text) n) (filter_map as_field b.members) k f fields i;
        constructors = λ c i. each_at (ConstructorIsTyped bs b.name.text n few numbered known) (filter_map as_constructor b.members) 0 c made i;
        handlers = λ k x i. each_at (HandlerIsTyped bs b.name.text n few numbered known) (filter_map as_handler b.members) k x handled i;
      }

-- ---- programs

few_behaviors : (behaviors before rest : List Behavior) → length before ≤ 64 → behaviors_verdict behaviors before rest ≡ Good tt → length before + length rest ≤ 64
few_behaviors behaviors before [] few h = omega arith
few_behaviors behaviors before (b ∷ rest) few h =
    let q = map_parts (λ x. tt) (behavior_verdict behaviors before b also behaviors_verdict behaviors (before ++ b ∷ []) rest) tt h in
    let both = also_parts (behavior_verdict behaviors before b) (behaviors_verdict behaviors (before ++ b ∷ []) rest) q.0 q.1 in
    let n = node_parts (members_verdict behaviors b.name.text [] b.members) (λ u. behavior_name_rules b.name before ++ count_rules 64 (length before) b.name.at) (λ u. tt) tt both.left in
    let count = rule_holds 2 b.name.at (nat_lt (length before) 64) (none_right (behavior_name_rules b.name before) (count_rules 64 (length before) b.name.at) n.keeps) in
    let lt : length before < 64 = ltb-true (length before) 64 count in
    let more : length (before ++ b ∷ []) ≡ length before + 1 = length-append before (b ∷ []) in
    let few_more : length (before ++ b ∷ []) ≤ 64 = omega (arith, lt, more) in
    let all = few_behaviors behaviors (before ++ b ∷ []) rest few_more both.right in
    omega (arith, all, more)

pub programs_have_parts : ProgramsHaveParts
unfolding violations_of
programs_have_parts p h =
    let whole = none_in (program_verdict p) h in
    let n = node_parts (behaviors_verdict p.behaviors [] p.behaviors) (λ u. start_rules p.behaviors) (λ u. tt) whole.0 whole.1 in
    let few = few_behaviors p.behaviors [] p.behaviors (omega arith) n.typed in
    let start = has_start p h in
    let small : length p.behaviors ≤ 64 = omega (arith, few) in
    record { few = small; start = (start.behavior, start.handler); starts = start.is; behaviors = behavior_typed p small n.typed }
