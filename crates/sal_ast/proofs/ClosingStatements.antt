-- Brackets are closed, and few signs wait, in statements and programs.
use Rattle.std.proofs.Common.{◌≡◌, ℕ, suc, ◌+◌, ◌*◌, max, Bool, true, false, List, [], ◌∷◌, ◌++◌, map, Option, Some, None, option_map, refl, sym, ap, subst, arith}
use Rattle.sal_ast.specs.declared.lexeme.Kind.TheVariants as kind
use Rattle.sal_ast.specs.declared.expression.Expr.{Expr}
use Rattle.sal_ast.specs.declared.program.Ident.{Ident}
use Rattle.sal_ast.specs.declared.program.TypeName.{TypeName}
use Rattle.sal_ast.specs.declared.program.Param.{Param}
use Rattle.sal_ast.specs.declared.program.Program.{Program}
use Rattle.sal_ast.specs.declared.program.Behavior.{Behavior}
use Rattle.sal_ast.specs.declared.program.Member.{Member}
use Rattle.sal_ast.specs.declared.program.Member.TheVariants as member
use Rattle.sal_ast.specs.declared.statement.Declare.{Declare}
use Rattle.sal_ast.specs.declared.statement.Assign.{Assign}
use Rattle.sal_ast.specs.declared.statement.ForInit.{ForInit}
use Rattle.sal_ast.specs.declared.statement.ForInit.TheVariants as init
use Rattle.sal_ast.specs.declared.statement.Aim.{Aim}
use Rattle.sal_ast.specs.declared.statement.Aim.TheVariants as aim
use Rattle.sal_ast.specs.declared.statement.Send.{Send}
use Rattle.sal_ast.specs.declared.statement.Arg.{Arg}
use Rattle.sal_ast.specs.declared.statement.Arg.TheVariants as arg
use Rattle.sal_ast.specs.declared.statement.Property.{Property}
use Rattle.sal_ast.specs.declared.statement.Property.TheVariants as property
use Rattle.sal_ast.specs.declared.statement.Stage.{Stage}
use Rattle.sal_ast.specs.declared.statement.Stmt.{Stmt}
use Rattle.sal_ast.specs.declared.statement.Chain.{Chain}
use Rattle.sal_ast.specs.declared.statement.Stage.TheViews.{roll-Stage, roll-Stmt, roll-Chain}
use Rattle.sal_ast.specs.declared.statement.Stage.TheOpen.{Stage-F, Stmt-F, Chain-F}
use Rattle.sal_ast.specs.declared.statement.Stage.TheFolds.{map-Stage, map-Stmt, map-Chain, fold-roll-Stage, fold-roll-Stmt, fold-roll-Chain, ind-Stmt}
use Rattle.sal_ast.specs.Brackets.{Keeps, role_of, BracketsAreClosed, PrefixSignsAreBounded, SpellingsAreNotEmpty}
use Rattle.sal_ast.specs.Depth as deep
use Rattle.sal_ast.specs.Depth.{greatest, stage_depth, stmt_depth, chain_depth, depth_expr, depth_stage, depth_stmt, depth_chain, depth_send, depth, depth_index, depth_declare, depth_assign, depth_init, depth_arg, depth_property, depth_member, depth_behavior}
use Rattle.sal_ast.specs.Regular.{is_regular}
use Rattle.sal_ast.specs.Spell.{TreeToken, TreeTokens, identifier, concat_tokens, separated_tokens, or_no_tokens, spell_value, spell_option, spell_index, spell_this, spell_declare, spell_assign, spell_init, spell_header, spell_aim, spell_arg, spell_property, spell_send, spell_continuation, stage_tokens, stmt_tokens, chain_tokens, spell_stage, spell_stmt, spell_chain, spell_block, spell_param, spell_params, spell_result, spell_member, spell_behavior, spell}
use Rattle.sal_ast.proofs.Closing.{Fits, none, quiet, keep, more, two, round, square, curly, behind_round, Known, all_fit, joined_fit, all_fits, joined_fits, type_fits, expr_fits}

one : {p : TreeToken} → role_of p ≡ Keeps → Fits 0 0 (p ∷ [])
one e = keep e quiet

value_fits : (x : Option Expr) → Fits (deep.or_zero (option_map depth_expr x)) 0 (spell_value x)
value_fits None = quiet
value_fits (Some x) = keep refl (more (expr_fits x) (omega arith) (omega arith))

option_fits : (x : Option Expr) → Fits (deep.or_zero (option_map depth_expr x)) 0 (spell_option x)
option_fits None = quiet
option_fits (Some x) = more (expr_fits x) (omega arith) (omega arith)

declare_fits : (d : Declare) → Fits (depth_declare d) 1 (spell_declare d)
unfolding spell_declare
declare_fits d =
    more (two (two (type_fits d.sort) (one {p = record { kind = kind.Id; text = d.name.text; at = Some d.name.at }} refl)) (value_fits d.init)) (omega arith) (omega arith)

index_fits : (x : Expr) → Fits (depth_index x) 0 (spell_index x)
index_fits x =
    more (square None (expr_fits x)) (omega arith) (omega arith)

this_fits : (own : Bool) → Fits 0 0 (spell_this own)
this_fits true = keep refl (keep refl quiet)
this_fits false = quiet

assign_fits : (a : Assign) → Fits (depth_assign a) 1 (spell_assign a)
unfolding spell_assign
assign_fits a =
    more (two (two (two (two (this_fits a.own) (one {p = record { kind = kind.Id; text = a.name.text; at = Some a.name.at }} refl)) (all_fits Expr 0 depth_index spell_index index_fits a.indexes)) (one refl)) (expr_fits a.value)) (omega arith) (omega arith)

init_fits : (i : ForInit) → Fits (depth_init i) 1 (spell_init i)
init_fits init.Nothing = quiet
init_fits (init.Declare d) = declare_fits d
init_fits (init.Assign a) = assign_fits a

next_fits : (n : Option Assign) → Fits (deep.or_zero (option_map depth_assign n)) 1 (or_no_tokens (option_map spell_assign n))
next_fits None = quiet
next_fits (Some a) = assign_fits a

header_fits : (i : ForInit) (t : Option Expr) (n : Option Assign) → Fits (suc (max (max (depth_init i) (deep.or_zero (option_map depth_expr t))) (deep.or_zero (option_map depth_assign n)))) 1 (spell_header i t n)
unfolding spell_header
header_fits i t n =
    more (round None (two (two (two (two (init_fits i) (one refl)) (option_fits t)) (one refl)) (next_fits n))) (omega arith) (omega arith)

aim_fits : (a : Aim) → Fits (deep.depth_aim a) 0 (spell_aim a)
aim_fits aim.Own = quiet
aim_fits (aim.Output at) = keep refl (keep refl quiet)
aim_fits (aim.Actor x) =
    more (two (expr_fits x) (one refl)) (omega arith) (omega arith)

arg_fits : (a : Arg) → Fits (depth_arg a) 0 (spell_arg a)
arg_fits (arg.Token at) = keep refl quiet
arg_fits (arg.Expr x) = expr_fits x

name_fits : (n : Ident) → Fits 0 0 (identifier n)
name_fits n = keep refl quiet

zero_depth : {A : Type 0} → A → ℕ
zero_depth a = 0

greatest_zero : (A : Type 0) (xs : List A) → greatest (map (λ (x : A). 0) xs) ≡ 0
greatest_zero A [] = refl
greatest_zero A (x ∷ xs) = ap (max 0) (greatest_zero A xs)

property_fits : (p : Property) → Fits (depth_property p) 1 (spell_property p)
property_fits (property.Delay at time) =
    more (keep refl (keep refl (round None (expr_fits time)))) (omega arith) (omega arith)
property_fits (property.WaitFor at names) =
    let e : greatest (map (λ (x : Ident). 0) names) ≡ 0 = greatest_zero Ident names in
    more (keep refl (keep refl (round None (joined_fits Ident 0 (λ x. 0) identifier name_fits names)))) (omega arith) (omega arith)

send_fits : (m : Send) → Fits (depth_send m) 1 (spell_send m)
unfolding depth_send spell_send
send_fits m =
    more (two (behind_round (spell_aim m.aim ++ identifier m.handler) (separated_tokens "," (map spell_arg m.args))
    (two (aim_fits m.aim) (one {p = record { kind = kind.Id; text = m.handler.text; at = Some m.handler.at }} refl))
    (joined_fits Arg 0 depth_arg spell_arg arg_fits m.args))
    (all_fits Property 1 depth_property spell_property property_fits m.properties)) (omega arith) (omega arith)

passed_fits : (p : Option ℕ) → Fits 0 0 (spell_continuation p)
passed_fits None = quiet
passed_fits (Some at) = keep refl (keep refl quiet)

-- ---- statements

abbrev PG : Stage → Type 0
PG x = Fits (depth_stage x) 1 (spell_stage x)

abbrev PT : Stmt → Type 0
PT x = Fits (depth_stmt x) 1 (spell_stmt x)

abbrev PC : Chain → Type 0
PC x = Fits (depth_chain x) 1 (spell_chain x)

abbrev LayerT : Type 0
LayerT = Stmt-F (Known Stage PG) (Known Stmt PT) (Known Chain PC)

abbrev stmt_trees : LayerT → Stmt-F Stage Stmt Chain
stmt_trees = map-Stmt (Known Stage PG) (Known Stmt PT) (Known Chain PC) Stage Stmt Chain (λ z. z.0) (λ z. z.0) (λ z. z.0)

abbrev stmt_depths : Stmt-F Stage Stmt Chain → ℕ
stmt_depths x = stmt_depth (map-Stmt Stage Stmt Chain ℕ ℕ ℕ depth_stage depth_stmt depth_chain x)

abbrev stmt_parts : Stmt-F Stage Stmt Chain → TreeTokens
stmt_parts x = stmt_tokens (map-Stmt Stage Stmt Chain TreeTokens TreeTokens TreeTokens spell_stage spell_stmt spell_chain x)

stmt_step : (y : LayerT) → Fits (stmt_depths (stmt_trees y)) 1 (stmt_parts (stmt_trees y))
stmt_step (Stmt-F.Empty at) = keep refl quiet
stmt_step (Stmt-F.Block at list) =
    more (curly (Some at) (all_fit Stmt PT 1 depth_stmt spell_stmt (λ a f. f) list)) (omega arith) (omega arith)
stmt_step (Stmt-F.Declare d) =
    more (two (declare_fits d) (one refl)) (omega arith) (omega arith)
stmt_step (Stmt-F.Assign a) =
    more (two (assign_fits a) (one refl)) (omega arith) (omega arith)
stmt_step (Stmt-F.If at test first None) =
    more (keep refl (two (two (round None (expr_fits test)) first.1) none)) (omega arith) (omega arith)
stmt_step (Stmt-F.If at test first (Some second)) =
    more (keep refl (two (two (round None (expr_fits test)) first.1) (keep {d = depth_stmt second.0} {k = 1} refl second.1))) (omega arith) (omega arith)
stmt_step (Stmt-F.While at test body) =
    more (keep refl (two (round None (expr_fits test)) body.1)) (omega arith) (omega arith)
stmt_step (Stmt-F.For at first test next body) =
    more (keep refl (two (header_fits first test next) body.1)) (omega arith) (omega arith)
stmt_step (Stmt-F.Return at value) =
    more (keep refl (two (option_fits value) (one refl))) (omega arith) (omega arith)
stmt_step (Stmt-F.Token at name chain) =
    more (keep refl (keep refl (keep refl (two chain.1 (one refl))))) (omega arith) (omega arith)
stmt_step (Stmt-F.Chain chain passed) =
    more (two (two chain.1 (passed_fits passed)) (one refl)) (omega arith) (omega arith)

stmt_depth_rolled : (z : Stmt-F Stage Stmt Chain) → depth_stmt (roll-Stmt z) ≡ stmt_depths z
unfolding depth_stage depth_stmt depth_chain
stmt_depth_rolled z = fold-roll-Stmt ℕ ℕ ℕ stage_depth stmt_depth chain_depth z

stmt_spell_rolled : (z : Stmt-F Stage Stmt Chain) → spell_stmt (roll-Stmt z) ≡ stmt_parts z
unfolding spell_stage spell_stmt spell_chain
stmt_spell_rolled z = fold-roll-Stmt TreeTokens TreeTokens TreeTokens stage_tokens stmt_tokens chain_tokens z

moved : (d e : ℕ) (p q : TreeTokens) → d ≡ e → p ≡ q → Fits e 1 q → Fits d 1 p
moved d e p q x y f = subst (λ (n : ℕ). Fits n 1 p) (sym x) (subst (λ (ps : TreeTokens). Fits e 1 ps) (sym y) f)

stmt_layer : (y : LayerT) → PT (roll-Stmt (stmt_trees y))
stmt_layer y = moved (depth_stmt (roll-Stmt (stmt_trees y))) (stmt_depths (stmt_trees y)) (spell_stmt (roll-Stmt (stmt_trees y))) (stmt_parts (stmt_trees y)) (stmt_depth_rolled (stmt_trees y)) (stmt_spell_rolled (stmt_trees y)) (stmt_step y)

abbrev LayerG : Type 0
LayerG = Stage-F (Known Stage PG) (Known Stmt PT) (Known Chain PC)

abbrev stage_trees : LayerG → Stage-F Stage Stmt Chain
stage_trees = map-Stage (Known Stage PG) (Known Stmt PT) (Known Chain PC) Stage Stmt Chain (λ z. z.0) (λ z. z.0) (λ z. z.0)

abbrev stage_depths : Stage-F Stage Stmt Chain → ℕ
stage_depths x = stage_depth (map-Stage Stage Stmt Chain ℕ ℕ ℕ depth_stage depth_stmt depth_chain x)

abbrev stage_parts : Stage-F Stage Stmt Chain → TreeTokens
stage_parts x = stage_tokens (map-Stage Stage Stmt Chain TreeTokens TreeTokens TreeTokens spell_stage spell_stmt spell_chain x)

stage_step : (y : LayerG) → Fits (stage_depths (stage_trees y)) 1 (stage_parts (stage_trees y))
stage_step (Stage-F.Message m) = send_fits m
stage_step (Stage-F.Join at body) =
    more (keep refl (curly None (all_fit Stmt PT 1 depth_stmt spell_stmt (λ a f. f) body))) (omega arith) (omega arith)

stage_depth_rolled : (z : Stage-F Stage Stmt Chain) → depth_stage (roll-Stage z) ≡ stage_depths z
unfolding depth_stage depth_stmt depth_chain
stage_depth_rolled z = fold-roll-Stage ℕ ℕ ℕ stage_depth stmt_depth chain_depth z

stage_spell_rolled : (z : Stage-F Stage Stmt Chain) → spell_stage (roll-Stage z) ≡ stage_parts z
unfolding spell_stage spell_stmt spell_chain
stage_spell_rolled z = fold-roll-Stage TreeTokens TreeTokens TreeTokens stage_tokens stmt_tokens chain_tokens z

stage_layer : (y : LayerG) → PG (roll-Stage (stage_trees y))
stage_layer y = moved (depth_stage (roll-Stage (stage_trees y))) (stage_depths (stage_trees y)) (spell_stage (roll-Stage (stage_trees y))) (stage_parts (stage_trees y)) (stage_depth_rolled (stage_trees y)) (stage_spell_rolled (stage_trees y)) (stage_step y)

abbrev LayerC : Type 0
LayerC = Chain-F (Known Stage PG) (Known Stmt PT) (Known Chain PC)

abbrev chain_trees : LayerC → Chain-F Stage Stmt Chain
chain_trees = map-Chain (Known Stage PG) (Known Stmt PT) (Known Chain PC) Stage Stmt Chain (λ z. z.0) (λ z. z.0) (λ z. z.0)

abbrev chain_depths : Chain-F Stage Stmt Chain → ℕ
chain_depths x = chain_depth (map-Chain Stage Stmt Chain ℕ ℕ ℕ depth_stage depth_stmt depth_chain x)

abbrev chain_parts : Chain-F Stage Stmt Chain → TreeTokens
chain_parts x = chain_tokens (map-Chain Stage Stmt Chain TreeTokens TreeTokens TreeTokens spell_stage spell_stmt spell_chain x)

chain_step : (y : LayerC) → Fits (chain_depths (chain_trees y)) 1 (chain_parts (chain_trees y))
chain_step y = joined_fit "@" refl Stage PG 1 depth_stage spell_stage (λ a f. f) y.stages

chain_depth_rolled : (z : Chain-F Stage Stmt Chain) → depth_chain (roll-Chain z) ≡ chain_depths z
unfolding depth_stage depth_stmt depth_chain
chain_depth_rolled z = fold-roll-Chain ℕ ℕ ℕ stage_depth stmt_depth chain_depth z

chain_spell_rolled : (z : Chain-F Stage Stmt Chain) → spell_chain (roll-Chain z) ≡ chain_parts z
unfolding spell_stage spell_stmt spell_chain
chain_spell_rolled z = fold-roll-Chain TreeTokens TreeTokens TreeTokens stage_tokens stmt_tokens chain_tokens z

chain_layer : (y : LayerC) → PC (roll-Chain (chain_trees y))
chain_layer y = moved (depth_chain (roll-Chain (chain_trees y))) (chain_depths (chain_trees y)) (spell_chain (roll-Chain (chain_trees y))) (chain_parts (chain_trees y)) (chain_depth_rolled (chain_trees y)) (chain_spell_rolled (chain_trees y)) (chain_step y)

pub stmt_fits : (x : Stmt) → Fits (depth_stmt x) 1 (spell_stmt x)
stmt_fits = ind-Stmt PG PT PC (λ x y is. subst (λ z. PG (roll-Stage z)) is (stage_layer y)) (λ x y is. subst (λ z. PT (roll-Stmt z)) is (stmt_layer y)) (λ x y is. subst (λ z. PC (roll-Chain z)) is (chain_layer y))

-- ---- programs

block_fits : (body : List Stmt) → Fits (greatest (map depth_stmt body)) 2 (spell_block body)
block_fits body =
    more (curly None (all_fits Stmt 1 depth_stmt spell_stmt stmt_fits body)) (omega arith) (omega arith)

param_fits : (p : Param) → Fits 0 1 (spell_param p)
param_fits p =
    more (two (type_fits p.sort) (one {p = record { kind = kind.Id; text = p.name.text; at = Some p.name.at }} refl)) (omega arith) (omega arith)

params_fit : (ps : List Param) → Fits 0 2 (spell_params ps)
params_fit ps =
    let e : greatest (map (λ (x : Param). 0) ps) ≡ 0 = greatest_zero Param ps in
    more (round None (joined_fits Param 1 (λ x. 0) spell_param param_fits ps)) (omega arith) (omega arith)

result_fits : (r : Option TypeName) → Fits 0 1 (spell_result r)
result_fits None = keep refl quiet
result_fits (Some sort) = type_fits sort

member_fits : (m : Member) → Fits (depth_member m) 2 (spell_member m)
unfolding spell_member
member_fits (member.Field sort name init) =
    more (two (two (two (type_fits sort) (one {p = record { kind = kind.Id; text = name.text; at = Some name.at }} refl)) (value_fits init)) (one refl)) (omega arith) (omega arith)
member_fits (member.Constructor name params body) =
    more (keep refl (two (params_fit params) (block_fits body))) (omega arith) (omega arith)
member_fits (member.Handler result name params body) =
    more (two (two (two (result_fits result) (one {p = record { kind = kind.Id; text = name.text; at = Some name.at }} refl)) (params_fit params)) (block_fits body)) (omega arith) (omega arith)

behavior_fits : (b : Behavior) → Fits (depth_behavior b) 3 (spell_behavior b)
unfolding spell_behavior
behavior_fits b =
    more (keep refl (keep refl (curly None (all_fits Member 2 depth_member spell_member member_fits b.members)))) (omega arith) (omega arith)

program_fits : (p : Program) → Fits (depth p) 3 (spell p)
unfolding depth spell
program_fits p = all_fits Behavior 3 depth_behavior spell_behavior behavior_fits p.behaviors

pub closed : BracketsAreClosed
closed p = (program_fits p).opened (depth p + 3) [] (omega arith)

pub bounded : PrefixSignsAreBounded
bounded p = (program_fits p).waiting (2 * depth p + 4) [] refl (omega arith)

not_empty : (bs : List Behavior) → concat_tokens (map spell_behavior bs) ≡ [] → bs ≡ []
unfolding spell_behavior
not_empty [] e = refl
not_empty (b ∷ bs) e = absurd cc

pub spelled : SpellingsAreNotEmpty
unfolding is_regular spell
spelled p r e = let n : p.behaviors ≡ [] = not_empty p.behaviors e in absurd cc
