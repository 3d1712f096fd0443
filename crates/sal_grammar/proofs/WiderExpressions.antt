-- More depth changes only refusals for depth: expressions.
use Rattle.std.specs.Prelude.{ℕ, zero, suc, List, [], ◌∷◌, ◌++◌, Option, Some, None}
use Rattle.sal_ast.specs.declared.expression.Expr.{Expr}
use Rattle.sal_ast.specs.declared.expression.Expr.TheVariants as e
use Rattle.sal_ast.specs.declared.expression.Suffix.{Suffix}
use Rattle.sal_ast.specs.declared.expression.Suffix.TheVariants as s
use Rattle.sal_ast.specs.declared.program.Ident.{Ident}
use Rattle.sal_grammar.specs.Tokens.{Token, Set}
use Rattle.sal_grammar.specs.Sets as is
use Rattle.sal_grammar.specs.Parsers.{Parser}
use Rattle.sal_grammar.specs.Expressions.{ident, type_of, suffixed, name_of, comma_item, items_until, list_until, pair, pairs, operand_of, level_of, sum_of, equal_of, expr_of, prefix, getter, index, size, suffix, suffixes, with_suffixes, getter_cast, after_paren, paren, second, place, new_actor, new_sized, new_list, new_array, after_dot, after_name, after_new, plain, own, closed_postfix, other_postfix, postfix, unary_by, unary, expr}
use Rattle.sal_grammar.proofs.Choices.{Positive}
use Rattle.sal_grammar.proofs.GoodOperands.{unary_good}
use Rattle.sal_grammar.proofs.Strictness.{index_strict, prefix_strict, getter_strict, paren_strict, new_strict}
use Rattle.sal_grammar.proofs.Wider.{Wider, wider_seq, wider_pure, wider_where, wider_unless, wider_then, wider_counted, wider_many}

pub wider_comma_item : {A : Type 0} {item item' : Parser A} (hi : Wider item item') → Wider (comma_item item) (comma_item item')
wider_comma_item hi = wider_then is.comma (λ _. hi)

pub wider_items_until : {A : Type 0} (close : Set) {item item' : Parser A} (hi : Wider item item') → Wider (items_until close item) (items_until close item')
wider_items_until close hi = wider_seq hi (λ x. wider_seq (wider_many (wider_comma_item hi)) (λ others. wider_then close (λ _. wider_pure)))

pub wider_list_until : {A : Type 0} (close : Set) {item item' : Parser A} (hi : Wider item item') → Wider (list_until close item) (list_until close item')
wider_list_until close hi = wider_where close (wider_then close (λ _. wider_pure)) (wider_items_until close hi)

pub wider_pair : Wider pair pair
wider_pair = wider_then is.open_bracket (λ _. wider_then is.close_bracket (λ _. wider_pure))

pub wider_pairs : Wider pairs pairs
wider_pairs = wider_seq (wider_many wider_pair) (λ found. wider_pure)

pub wider_operand_of : (ops : Set) {below below' : Parser Expr} (hb : Wider below below') → Wider (operand_of ops below) (operand_of ops below')
wider_operand_of ops hb = wider_then ops (λ t. wider_seq hb (λ x. wider_pure))

pub wider_level_of : (ops : Set) {below below' : Parser Expr} (hb : Wider below below') → Wider (level_of ops below) (level_of ops below')
unfolding level_of
wider_level_of ops hb = wider_seq hb (λ x. wider_seq (wider_many (wider_operand_of ops hb)) (λ os. wider_pure))

pub wider_sum_of : {unary unary' : Parser Expr} (hb : Wider unary unary') → Wider (sum_of unary) (sum_of unary')
unfolding sum_of
wider_sum_of hb = wider_level_of is.sum (wider_level_of is.product hb)

pub wider_equal_of : {unary unary' : Parser Expr} (hb : Wider unary unary') → Wider (equal_of unary) (equal_of unary')
unfolding equal_of
wider_equal_of hb = wider_level_of is.equal (wider_level_of is.relation (wider_sum_of hb))

pub wider_expr_of : {unary unary' : Parser Expr} (hb : Wider unary unary') → Wider (expr_of unary) (expr_of unary')
unfolding expr_of
wider_expr_of hb = wider_level_of is.or (wider_level_of is.and (wider_equal_of hb))

pub wider_prefix : {below below' : Parser Expr} (hb : Wider below below') → Wider (prefix below) (prefix below')
unfolding prefix
wider_prefix hb = wider_then is.prefix (λ t. wider_seq hb (λ x. wider_pure))

pub wider_getter : {below below' : Parser Expr} (hb : Wider below below') (at : ℕ) (cast : Option Ident) (behavior : Ident) → Wider (getter below at cast behavior) (getter below' at cast behavior)
unfolding getter
wider_getter hb at cast behavior = wider_then is.getter (λ _. wider_then is.open_paren (λ _. wider_seq (wider_expr_of hb) (λ x. wider_then is.close_paren (λ _. wider_pure))))

pub wider_index : {below below' : Parser Expr} (hb : Wider below below') → Wider (index below) (index below')
unfolding index
wider_index hb = wider_then is.open_bracket (λ t. wider_seq (wider_expr_of hb) (λ x. wider_then is.close_bracket (λ _. wider_pure)))

pub wider_size : Wider size size
wider_size = wider_then is.dot (λ t. wider_then is.length (λ _. wider_pure))

pub wider_suffix : (d : ℕ) {below : Parser Expr} (hb : Positive d → Wider below (unary (suc d))) → Wider (suffix d below) (suffix (suc (suc d)) (unary (suc d)))
unfolding suffix
wider_suffix d hb = wider_counted d (index_strict (unary_good (suc d))) (λ deep. wider_index (hb deep)) wider_size

pub wider_suffixes : (d : ℕ) {below : Parser Expr} (hb : Positive d → Wider below (unary (suc d))) → Wider (suffixes d below) (suffixes (suc (suc d)) (unary (suc d)))
unfolding suffixes
wider_suffixes d hb = wider_many (wider_suffix d hb)

pub wider_with_suffixes : (d : ℕ) {below : Parser Expr} (hb : Positive d → Wider below (unary (suc d))) (x : Expr) (found : List Suffix) → Wider (with_suffixes d below x found) (with_suffixes (suc (suc d)) (unary (suc d)) x found)
unfolding with_suffixes
wider_with_suffixes d hb x found = wider_seq (wider_suffixes d hb) (λ os. wider_unless is.after_unary (suffixed x (found ++ os)))

pub wider_getter_cast : {below below' : Parser Expr} (hb : Wider below below') (at : ℕ) (cast : Ident) → Wider (getter_cast below at cast) (getter_cast below' at cast)
unfolding getter_cast
wider_getter_cast hb at cast = wider_then is.id (λ t. wider_then is.dot (λ _. wider_getter hb at (Some cast) (ident t)))

pub wider_after_paren : (d : ℕ) (deep : Positive d) {below : Parser Expr} (hb : Positive d → Wider below (unary (suc d))) (at : ℕ) (x : Expr) (name : Option Ident) → Wider (after_paren d below at x name) (after_paren (suc (suc d)) (unary (suc d)) at x name)
wider_after_paren d deep hb at x None = wider_with_suffixes d hb (e.Paren at x) []
wider_after_paren d deep hb at x (Some name) = wider_where is.id (wider_seq (wider_getter_cast (hb deep) at name) (λ y. wider_with_suffixes d hb y [])) (wider_with_suffixes d hb (e.Paren at x) [])

pub wider_paren : (d : ℕ) (deep : Positive d) {below : Parser Expr} (hb : Positive d → Wider below (unary (suc d))) → Wider (paren d below) (paren (suc (suc d)) (unary (suc d)))
unfolding paren
wider_paren d deep hb = wider_then is.open_paren (λ t. wider_seq (wider_expr_of (hb deep)) (λ x. wider_then is.close_paren (λ _. wider_after_paren d deep hb t.at x (name_of x))))

pub wider_second : {below below' : Parser Expr} (hb : Wider below below') → Wider (second below) (second below')
unfolding second
wider_second hb = wider_where is.comma (wider_then is.comma (λ _. wider_seq (wider_expr_of hb) (λ x. wider_then is.close_paren (λ _. wider_pure)))) (wider_then is.close_paren (λ _. wider_pure))

pub wider_place : {below below' : Parser Expr} (hb : Wider below below') → Wider (place below) (place below')
unfolding place
wider_place hb = wider_then is.at (λ t. wider_then is.open_paren (λ _. wider_seq (wider_expr_of hb) (λ x. wider_seq (wider_second hb) (λ y. wider_pure))))

pub wider_new_actor : (d : ℕ) (deep : Positive d) {below : Parser Expr} (hb : Positive d → Wider below (unary (suc d))) (at : ℕ) (behavior : Ident) → Wider (new_actor d below at behavior) (new_actor (suc (suc d)) (unary (suc d)) at behavior)
unfolding new_actor
wider_new_actor d deep hb at behavior = wider_then is.open_paren (λ _. wider_seq (wider_list_until is.close_paren (wider_expr_of (hb deep))) (λ args. wider_where is.at (wider_seq (wider_place (hb deep)) (λ p. wider_with_suffixes d hb (e.New at behavior args (Some p)) [])) (wider_with_suffixes d hb (e.New at behavior args None) [])))

pub wider_new_sized : {below below' : Parser Expr} (hb : Wider below below') (at : ℕ) (sort : Token) → Wider (new_sized below at sort) (new_sized below' at sort)
unfolding new_sized
wider_new_sized hb at sort = wider_seq (wider_expr_of hb) (λ x. wider_then is.close_bracket (λ _. wider_seq wider_pairs (λ n. wider_unless is.after_unary (e.Make at (type_of sort (suc n)) x))))

pub wider_new_list : {below below' : Parser Expr} (hb : Wider below below') (at : ℕ) (sort : Token) → Wider (new_list below at sort) (new_list below' at sort)
unfolding new_list
wider_new_list hb at sort = wider_then is.close_bracket (λ _. wider_seq wider_pairs (λ n. wider_then is.open_brace (λ _. wider_seq (wider_list_until is.close_brace (wider_expr_of hb)) (λ items. wider_unless is.after_unary (e.ListOf at (type_of sort (suc n)) items)))))

pub wider_new_array : {below below' : Parser Expr} (hb : Wider below below') (at : ℕ) (sort : Token) → Wider (new_array below at sort) (new_array below' at sort)
unfolding new_array
wider_new_array hb at sort = wider_then is.open_bracket (λ _. wider_where is.close_bracket (wider_new_list hb at sort) (wider_new_sized hb at sort))

pub wider_after_dot : (d : ℕ) {below : Parser Expr} (hb : Positive d → Wider below (unary (suc d))) (name : Ident) (at : ℕ) → Wider (after_dot d below name at) (after_dot (suc (suc d)) (unary (suc d)) name at)
unfolding after_dot
wider_after_dot d hb name at = wider_counted d (getter_strict (suc (suc d)) (unary_good (suc d)) name.at None name) (λ deep. wider_seq (wider_getter (hb deep) name.at None name) (λ x. wider_with_suffixes d hb x [])) (wider_then is.length (λ _. wider_with_suffixes d hb (e.Name name) (s.Length at ∷ [])))

pub wider_after_name : (d : ℕ) {below : Parser Expr} (hb : Positive d → Wider below (unary (suc d))) (name : Ident) → Wider (after_name d below name) (after_name (suc (suc d)) (unary (suc d)) name)
unfolding after_name
wider_after_name d hb name = wider_where is.dot (wider_then is.dot (λ t. wider_after_dot d hb name t.at)) (wider_with_suffixes d hb (e.Name name) [])

pub wider_after_new : (d : ℕ) (deep : Positive d) {below : Parser Expr} (hb : Positive d → Wider below (unary (suc d))) (at : ℕ) → Wider (after_new d below at) (after_new (suc (suc d)) (unary (suc d)) at)
unfolding after_new
wider_after_new d deep hb at = wider_where is.id (wider_then is.id (λ t. wider_where is.open_paren (wider_new_actor d deep hb at (ident t)) (wider_new_array (hb deep) at t))) (wider_then is.sort_word (λ t. wider_new_array (hb deep) at t))

pub wider_plain : Wider plain plain
wider_plain = wider_then is.plain (λ t. wider_pure)

pub wider_own : Wider own own
wider_own = wider_then is.this (λ t. wider_then is.dot (λ _. wider_then is.id (λ name. wider_pure)))

pub wider_closed_postfix : (d : ℕ) {below : Parser Expr} (hb : Positive d → Wider below (unary (suc d))) → Wider (closed_postfix d below) (closed_postfix (suc (suc d)) (unary (suc d)))
unfolding closed_postfix
wider_closed_postfix d hb = wider_counted d (paren_strict (suc (suc d)) (unary_good (suc d))) (λ deep. wider_paren d deep hb) (wider_counted d (new_strict (suc (suc d)) (unary_good (suc d))) (λ deep. wider_then is.new (λ t. wider_after_new d deep hb t.at)) (wider_seq wider_plain (λ x. wider_with_suffixes d hb x [])))

pub wider_other_postfix : (d : ℕ) {below : Parser Expr} (hb : Positive d → Wider below (unary (suc d))) → Wider (other_postfix d below) (other_postfix (suc (suc d)) (unary (suc d)))
unfolding other_postfix
wider_other_postfix d hb = wider_where is.this (wider_seq wider_own (λ x. wider_with_suffixes d hb x [])) (wider_closed_postfix d hb)

pub wider_postfix : (d : ℕ) {below : Parser Expr} (hb : Positive d → Wider below (unary (suc d))) → Wider (postfix d below) (postfix (suc (suc d)) (unary (suc d)))
unfolding postfix
wider_postfix d hb = wider_where is.id (wider_then is.id (λ t. wider_after_name d hb (ident t))) (wider_other_postfix d hb)

pub wider_unary_by : (d : ℕ) {below : Parser Expr} (hb : Positive d → Wider below (unary (suc d))) → Wider (unary_by d below) (unary_by (suc (suc d)) (unary (suc d)))
unfolding unary_by
wider_unary_by d hb = wider_counted d (prefix_strict (unary_good (suc d))) (λ deep. wider_prefix (hb deep)) (wider_postfix d hb)

pub wider_unary : (d : ℕ) → Wider (unary d) (unary (suc (suc d)))
unfolding unary
wider_unary zero = wider_unary_by zero (λ deep. absurd deep)
wider_unary (suc d) = wider_unary_by (suc d) (λ _. wider_unary d)

pub wider_expr : (d : ℕ) → Wider (expr d) (expr (suc (suc d)))
unfolding expr
wider_expr d = wider_expr_of (wider_unary d)
