-- More depth changes only refusals for depth: programs.
use Rattle.std.specs.Prelude.{suc, ℕ, Option, Some, None}
use Rattle.sal_ast.specs.declared.program.Ident.{Ident}
use Rattle.sal_ast.specs.declared.program.TypeName.{TypeName}
use Rattle.sal_grammar.specs.Tokens.{Token}
use Rattle.sal_grammar.specs.Sets as is
use Rattle.sal_grammar.specs.Expressions.{ident, type_of}
use Rattle.sal_grammar.specs.Programs.{param, params, body, constructor, handler, typed_member, name_member, member, behavior, program, top}
use Rattle.sal_grammar.proofs.Wider.{Wider, wider_seq, wider_pure, wider_refuse, wider_where, wider_then, wider_many}
use Rattle.sal_grammar.proofs.WiderExpressions.{wider_list_until, wider_pairs}
use Rattle.sal_grammar.proofs.WiderStatements.{wider_name, wider_initial, wider_body_of, wider_stmt}

pub wider_param : Wider param param
unfolding param
wider_param = wider_then is.sort (λ t. wider_seq wider_pairs (λ dims. wider_seq wider_name (λ n. wider_pure)))

pub wider_params : Wider params params
unfolding params
wider_params = wider_then is.open_paren (λ _. wider_list_until is.close_paren wider_param)

pub wider_body : (d : ℕ) → Wider (body d) (body (suc (suc d)))
unfolding body
wider_body d = wider_then is.open_brace (λ _. wider_body_of (wider_stmt d))

pub wider_constructor : (d : ℕ) (n : Ident) → Wider (constructor d n) (constructor (suc (suc d)) n)
unfolding constructor
wider_constructor d n = wider_seq wider_params (λ found. wider_seq (wider_body d) (λ list. wider_pure))

pub wider_handler : (d : ℕ) (result : Option TypeName) (n : Ident) → Wider (handler d result n) (handler (suc (suc d)) result n)
unfolding handler
wider_handler d result n = wider_seq wider_params (λ found. wider_seq (wider_body d) (λ list. wider_pure))

pub wider_typed_member : (d : ℕ) (sort : TypeName) → Wider (typed_member d sort) (typed_member (suc (suc d)) sort)
unfolding typed_member
wider_typed_member d sort = wider_seq wider_name (λ n. wider_where is.open_paren (wider_handler d (Some sort) n) (wider_seq (wider_initial d) (λ x. wider_pure)))

pub wider_name_member : (d : ℕ) (t : Token) → Wider (name_member d t) (name_member (suc (suc d)) t)
unfolding name_member
wider_name_member d t = wider_where is.open_paren (wider_constructor d (ident t)) (wider_seq wider_pairs (λ dims. wider_typed_member d (type_of t dims)))

pub wider_member : (d : ℕ) → Wider (member d) (member (suc (suc d)))
unfolding member
wider_member d = wider_where is.id (wider_then is.id (λ z. (wider_name_member d z))) (wider_where is.void (wider_then is.void (λ _. wider_seq wider_name (λ n. wider_handler d None n))) (wider_then is.sort_word (λ t. wider_seq wider_pairs (λ dims. wider_typed_member d (type_of t dims)))))

pub wider_behavior : (d : ℕ) → Wider (behavior d) (behavior (suc (suc d)))
unfolding behavior
wider_behavior d = wider_then is.behavior (λ _. wider_seq wider_name (λ n. wider_then is.open_brace (λ _. wider_seq (wider_many (wider_member d)) (λ found. wider_then is.close_brace (λ _. wider_pure)))))

pub wider_program : (d : ℕ) → Wider (program d) (program (suc (suc d)))
unfolding program
wider_program d = wider_seq (wider_behavior d) (λ b. wider_seq (wider_many (wider_behavior d)) (λ others. wider_pure))

pub wider_top : (d : ℕ) → Wider (top d) (top (suc (suc d)))
unfolding top
wider_top d = wider_seq (wider_program d) (λ p. wider_where is.end wider_pure wider_refuse)
