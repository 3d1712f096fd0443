-- Words of messages are their trees.
use Rattle.std.proofs.Common.{◌≡◌, inl, inr, ℕ, zero, suc, ◌≤◌, max, Bool, true, false, ◌&&◌, List, [], ◌∷◌, ◌++◌, map, Option, Some, None, refl, sym, ap, ◌∙◌, subst, append_assoc, append-nil, arith, rules}
use Rattle.std.specs.List.{list_all}
use Rattle.sal_ast.specs.declared.expression.Expr.{Expr}
use Rattle.sal_ast.specs.declared.program.Ident.{Ident}
use Rattle.sal_ast.specs.declared.statement.Aim.{Aim}
use Rattle.sal_ast.specs.declared.statement.Aim.TheVariants as aim
use Rattle.sal_ast.specs.declared.statement.Arg.{Arg}
use Rattle.sal_ast.specs.declared.statement.Arg.TheVariants as arg
use Rattle.sal_ast.specs.declared.statement.Property.{Property}
use Rattle.sal_ast.specs.declared.statement.Property.TheVariants as of
use Rattle.sal_ast.specs.declared.statement.Send.{Send}
use Rattle.sal_ast.specs.declared.statement.Stage.{Stage}
use Rattle.sal_ast.specs.declared.statement.Stage.TheVariants as g
use Rattle.sal_ast.specs.Depth.{greatest, depth_arg, depth_property, depth_aim, depth_send, depth_stage}
use Rattle.sal_ast.specs.Regular.{arg_is_regular, property_is_regular, aim_is_regular, send_is_regular, stage_is_regular, has_any}
use Rattle.sal_ast.specs.Spell.{TreeTokens, concat_tokens, separated_tokens, sign, sign_at, word_at, fixed_identifier, identifier, spell_expr, spell_arg, spell_property, spell_aim, spell_send, spell_stage}
use Rattle.sal_ast.proofs.DepthEquations.{depth-Message}
use Rattle.sal_ast.proofs.RegularEquations.{regular-Message}
use Rattle.sal_ast.proofs.SpellEquations.{spell-Message}
use Rattle.sal_grammar.specs.Tokens.{Token, Lexemes}
use Rattle.sal_grammar.specs.Sets as is
use Rattle.sal_grammar.proofs.Languages.{Seq, One, Just, Either, Star}
use Rattle.sal_grammar.proofs.StatementWords.{NameWord, ArgumentWord, DelayWord, WaitForWord, PropertyWord, MessageWord, SendToWord, OutputWord}
use Rattle.sal_grammar.proofs.TreesTokens as the
use Rattle.sal_grammar.proofs.TreesTokens.{left_true, right_true, both_true}
use Rattle.sal_grammar.proofs.TreesSteps.{Gives, Into, Takes, Each, Fine, AllOf, fine_each, each_fine, most, first_most, second_most, least, parts5, parts6, gives_by, into_seq, into_just, into_end, into_either, into_at, into_split, token, token_at, star_gives, star_takes, take_seq, take_just, take_end, take_as, take_left, take_right, take_token, take_at}
use Rattle.sal_grammar.proofs.TreesLists.{Link, list_link, items_gives, items_takes}
use Rattle.sal_grammar.proofs.TreesOperators.{Ranked, regular_by}
use Rattle.sal_grammar.proofs.TreesParts.{any_rank}
use Rattle.sal_grammar.proofs.TreesPostfix.{expr_link}
use Rattle.sal_grammar.proofs.TreesAssignments.{name_link}

-- ---- arguments

abbrev pub ArgFine : ℕ → Arg → Type 0
ArgFine d = Fine arg_is_regular depth_arg d

argument_takes : (d : ℕ) (a : Arg) → ArgFine d a → Takes (ArgumentWord d) a (spell_arg a)
unfolding ArgumentWord
argument_takes d (arg.Token at) f = take_left (take_at (λ z. arg.Token z) the.token (λ t. take_just (arg.Token t.at) refl))
argument_takes d (arg.Expr x) f = take_right (take_end arg.Expr x ((expr_link d).takes x (any_rank x f.good f.fits)) refl)

argument_gives : (d : ℕ) → Gives (ArgumentWord d) (ArgFine d) spell_arg
unfolding ArgumentWord
argument_gives d = gives_by (into_either
    (into_seq (token_at the.token) (λ t h. into_just (arg.Token t.at) (record { good = refl; fits = least }) refl))
    (into_end arg.Expr (expr_link d).gives (λ x f. record { good = regular_by 0 f; fits = f.fits }) (λ x. refl)))

argument_link : (d : ℕ) → Link (ArgumentWord d) (ArgFine d) spell_arg
argument_link d = record { gives = argument_gives d; takes = argument_takes d }

-- ---- properties

abbrev pub PropertyFine : ℕ → Property → Type 0
PropertyFine d = Fine property_is_regular depth_property d

names_each : (names : List Ident) → Each (λ (n : Ident). Unit {0}) names
names_each [] = tt
names_each (n ∷ names) = (tt, names_each names)

property_gives : (d : ℕ) → Gives (PropertyWord d) (PropertyFine d) spell_property
unfolding PropertyWord DelayWord WaitForWord
property_gives d = gives_by (into_seq (token_at the.colon) (λ t h. into_either
    (into_seq (token the.delay) (λ t2 h2. into_seq (token the.open_paren) (λ t3 h3. into_seq (expr_link d).gives (λ x f. into_seq (token the.close_paren) (λ t4 h4.
    into_just (of.Delay t.at x) (record { good = regular_by 0 f; fits = f.fits }) refl)))))
    (into_seq (token the.wait_for) (λ t2 h2. into_seq (token the.open_paren) (λ t3 h3.
    into_end (λ names. of.WaitFor t.at names) (items_gives the.close_paren name_link) (λ names f. record { good = f.1; fits = least }) (λ names. refl))))))

property_takes : (d : ℕ) (p : Property) → PropertyFine d p → Takes (PropertyWord d) p (spell_property p)
unfolding PropertyWord DelayWord WaitForWord
property_takes d (of.Delay at x) f =
    take_at (λ z. of.Delay z x) the.colon (λ t. take_left (take_token the.delay (λ t2. take_token the.open_paren (λ t3. take_seq x ((expr_link d).takes x (any_rank x f.good f.fits)) (take_token the.close_paren (λ t4. take_just (of.Delay t.at x) refl))))))
property_takes d (of.WaitFor at []) f = absurd (let g : false ≡ true = f.good in cc)
property_takes d (of.WaitFor at (n ∷ names)) f =
    take_at (λ z. of.WaitFor z (n ∷ names)) the.colon (λ t. take_right (take_token the.wait_for (λ t2. take_token the.open_paren (λ t3.
    take_end (λ z. of.WaitFor t.at z) (n ∷ names) (items_takes the.close_paren name_link n names tt (names_each names)) refl))))

property_link : (d : ℕ) → Link (PropertyWord d) (PropertyFine d) spell_property
property_link d = record { gives = property_gives d; takes = property_takes d }

-- ---- messages

abbrev pub AimFine : ℕ → Aim → Type 0
AimFine d = Fine aim_is_regular depth_aim d

abbrev pub StageFine : ℕ → Stage → Type 0
StageFine d = Fine stage_is_regular depth_stage d

args_all : AllOf arg_is_regular (λ xs. list_all arg_is_regular xs)
args_all = record { none = refl; more = λ x xs. refl }

properties_all : AllOf property_is_regular (λ xs. list_all property_is_regular xs)
properties_all = record { none = refl; more = λ x xs. refl }

pub message_fine : (d : ℕ) (m : Send) → AimFine d m.aim → Each (ArgFine d) m.args → Each (PropertyFine d) m.properties → StageFine d (g.Message m)
unfolding send_is_regular depth_send
message_fine d m f h i =
    let a = fine_each args_all m.args h in
    let p = fine_each properties_all m.properties i in
    record {
      good = regular-Message m ∙ both_true (aim_is_regular m.aim && list_all arg_is_regular m.args) (list_all property_is_regular m.properties) (both_true (aim_is_regular m.aim) (list_all arg_is_regular m.args) f.good a.good) p.good;
      fits = subst (λ z. z ≤ d) (sym (depth-Message m)) (most f.fits (most a.fits p.fits));
    }

pub message_aim : (d : ℕ) (m : Send) → StageFine d (g.Message m) → AimFine d m.aim
unfolding send_is_regular depth_send
message_aim d m f =
    let r = sym (regular-Message m) ∙ f.good in
    record {
      good = left_true (aim_is_regular m.aim) (list_all arg_is_regular m.args) (left_true (aim_is_regular m.aim && list_all arg_is_regular m.args) (list_all property_is_regular m.properties) r);
      fits = first_most (depth_aim m.aim) (max (greatest (map depth_arg m.args)) (greatest (map depth_property m.properties))) (subst (λ z. z ≤ d) (depth-Message m) f.fits);
    }

pub message_args : (d : ℕ) (m : Send) → StageFine d (g.Message m) → Each (ArgFine d) m.args
unfolding send_is_regular depth_send
message_args d m f =
    let r = sym (regular-Message m) ∙ f.good in
    each_fine args_all m.args (record {
      good = right_true (aim_is_regular m.aim) (list_all arg_is_regular m.args) (left_true (aim_is_regular m.aim && list_all arg_is_regular m.args) (list_all property_is_regular m.properties) r);
      fits = first_most (greatest (map depth_arg m.args)) (greatest (map depth_property m.properties)) (second_most (depth_aim m.aim) (max (greatest (map depth_arg m.args)) (greatest (map depth_property m.properties))) (subst (λ z. z ≤ d) (depth-Message m) f.fits));
    })

pub message_properties : (d : ℕ) (m : Send) → StageFine d (g.Message m) → Each (PropertyFine d) m.properties
unfolding send_is_regular depth_send
message_properties d m f =
    let r = sym (regular-Message m) ∙ f.good in
    each_fine properties_all m.properties (record {
      good = right_true (aim_is_regular m.aim && list_all arg_is_regular m.args) (list_all property_is_regular m.properties) r;
      fits = second_most (greatest (map depth_arg m.args)) (greatest (map depth_property m.properties)) (second_most (depth_aim m.aim) (max (greatest (map depth_arg m.args)) (greatest (map depth_property m.properties))) (subst (λ z. z ≤ d) (depth-Message m) f.fits));
    })

pub message_spell : (m : Send)
    → spell_stage (g.Message m) ≡ spell_aim m.aim ++ (identifier m.handler ++ (sign "(" ++ ((separated_tokens "," (map spell_arg m.args) ++ sign ")") ++ concat_tokens (map spell_property m.properties))))
unfolding spell_send
message_spell m =
    let a = separated_tokens "," (map spell_arg m.args) in
    let p = concat_tokens (map spell_property m.properties) in
    spell-Message m ∙ (parts6 (spell_aim m.aim) (identifier m.handler) (sign "(") a (sign ")") p ∙ ap (λ z. spell_aim m.aim ++ (identifier m.handler ++ (sign "(" ++ z))) (sym (append_assoc a (sign ")") p)))

pub message_into : (d : ℕ) (to : Aim) (n : Ident) → AimFine d to → Into (StageFine d) spell_stage (λ q. spell_aim to ++ (identifier n ++ q)) (MessageWord d to n)
unfolding MessageWord
message_into d to n f =
    into_seq (token the.open_paren) (λ t h. into_seq (list_link the.close_paren (argument_link d)).gives (λ args i.
    into_end (λ found. g.Message (record { aim = to; handler = n; args = args; properties = found })) (star_gives (property_gives d))
    (λ found j. message_fine d (record { aim = to; handler = n; args = args; properties = found }) f i j)
    (λ found. sym (message_spell (record { aim = to; handler = n; args = args; properties = found })))))

-- what a message is, behind its target and its name
pub message_takes : (d : ℕ) (m : Send) → StageFine d (g.Message m)
    → Takes (MessageWord d m.aim m.handler) (g.Message m) (sign "(" ++ ((separated_tokens "," (map spell_arg m.args) ++ sign ")") ++ concat_tokens (map spell_property m.properties)))
unfolding MessageWord
message_takes d m f =
    take_token the.open_paren (λ t. take_seq m.args ((list_link the.close_paren (argument_link d)).takes m.args (message_args d m f))
    (take_end (λ found. g.Message (record { aim = m.aim; handler = m.handler; args = m.args; properties = found })) m.properties (star_takes (property_takes d) m.properties (message_properties d m f)) refl))

-- ---- messages to a target

abbrev pub target : Aim → TreeTokens
target aim.Own = []
target (aim.Output at) = word_at "standardOutput" at
target (aim.Actor x) = spell_expr x

abbrev pub has_target : Aim → Bool
has_target aim.Own = false
has_target (aim.Output at) = true
has_target (aim.Actor x) = true

target_before : (to : Aim) (q : TreeTokens) → has_target to ≡ true → target to ++ (sign "<-" ++ q) ≡ spell_aim to ++ q
target_before aim.Own q h = absurd (let e : false ≡ true = h in cc)
target_before (aim.Output at) q h = refl
target_before (aim.Actor x) q h = sym (append_assoc (spell_expr x) (sign "<-") q)

pub send_into : (d : ℕ) (to : Aim) → has_target to ≡ true → AimFine d to → Into (StageFine d) spell_stage (λ q. target to ++ q) (SendToWord d to)
unfolding SendToWord
send_into d to h f = into_seq (token the.arrow) (λ t i. into_seq name_link.gives (λ n j. into_at (λ q. target_before to (identifier n ++ q) h) (message_into d to n f)))

-- what a message is, behind its target
abbrev pub sent : Send → TreeTokens
sent m = sign "<-" ++ (identifier m.handler ++ (sign "(" ++ ((separated_tokens "," (map spell_arg m.args) ++ sign ")") ++ concat_tokens (map spell_property m.properties))))

pub sent_spell : (m : Send) → has_target m.aim ≡ true → spell_stage (g.Message m) ≡ target m.aim ++ sent m
sent_spell m h = message_spell m ∙ sym (target_before m.aim (identifier m.handler ++ (sign "(" ++ ((separated_tokens "," (map spell_arg m.args) ++ sign ")") ++ concat_tokens (map spell_property m.properties)))) h)

pub send_takes : (d : ℕ) (m : Send) → StageFine d (g.Message m) → Takes (SendToWord d m.aim) (g.Message m) (sent m)
unfolding SendToWord
send_takes d m f = take_token the.arrow (λ t. take_seq m.handler (name_link.takes m.handler tt) (message_takes d m f))

output_fine : (d at : ℕ) → AimFine d (aim.Output at)
output_fine d at = record { good = refl; fits = least }

pub output_gives : (d : ℕ) → Gives (OutputWord d) (StageFine d) spell_stage
output_gives d = gives_by (into_seq (token_at the.output) (λ t h. send_into d (aim.Output t.at) refl (output_fine d t.at)))
