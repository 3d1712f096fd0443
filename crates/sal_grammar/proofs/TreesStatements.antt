-- Words of statements spell their trees.
use Rattle.std.proofs.Common.{◌≡◌, inl, inr, ℕ, zero, suc, ◌≤◌, Bool, true, false, List, [], ◌∷◌, ◌++◌, map, Option, Some, None, refl, sym, ap, ◌∙◌, subst, append_assoc, arith}
use Rattle.sal_ast.specs.declared.expression.Expr.{Expr}
use Rattle.sal_ast.specs.declared.statement.Stmt.{Stmt}
use Rattle.sal_ast.specs.declared.statement.Stmt.TheVariants as form
use Rattle.sal_ast.specs.Spell.{TreeTokens, sign, word_at, spell_option, spell_stmt}
use Rattle.sal_ast.proofs.DepthEquations.{depth-Empty, depth-Return}
use Rattle.sal_ast.proofs.RegularEquations.{regular-Empty, regular-Return}
use Rattle.sal_ast.proofs.SpellEquations.{spell-Empty, spell-Return}
use Rattle.sal_grammar.specs.Tokens.{Token, Lexemes}
use Rattle.sal_grammar.specs.Sets as is
use Rattle.sal_grammar.specs.Expressions.{ident}
use Rattle.sal_grammar.specs.Statements.{one_less}
use Rattle.sal_grammar.proofs.Languages.{Seq, One, Just, Either, Empty, Deep, Star}
use Rattle.sal_grammar.proofs.StatementWords.{BelowWord, JoinWord, NestedWord, ChainStmtWord, OtherChainWord, ReturnStmtWord, StmtByWord, StmtWord}
use Rattle.sal_grammar.proofs.TreesTokens as the
use Rattle.sal_grammar.proofs.TreesSteps.{Gives, Into, Takes, Each, gives_by, into_seq, into_just, into_end, into_either, into_gives, into_none, token, token_at, name_token, take_just, take_end, take_as, take_right, take_left, take_at}
use Rattle.sal_grammar.proofs.TreesLists.{Link}
use Rattle.sal_grammar.proofs.TreesOperators.{Ranked}
use Rattle.sal_grammar.proofs.TreesParts.{IfThere, option_regular, option_depth, option_parts}
use Rattle.sal_grammar.proofs.TreesPostfix.{closed_gives}
use Rattle.sal_grammar.proofs.TreesAssignments.{under_below, word_typed_into}
use Rattle.sal_grammar.proofs.TreesMessages.{output_gives}
use Rattle.sal_grammar.proofs.TreesChains.{StmtFine, Inside, stmt_by, stmt_good, stmt_depth, join_gives, chain_into, token_gives}
use Rattle.sal_grammar.proofs.TreesVariables.{typed_into, sent_into, this_gives, name_stmt_into}
use Rattle.sal_grammar.proofs.TreesNests.{until_link, nested_gives}

-- where one more may be opened, a word and what follows it
deep_seq : (d : ℕ) (S : Stmt → List Token → Type 0) → Inside d S → Gives (Deep d (Seq (JoinWord S) (ChainStmtWord d S))) (StmtFine d) spell_stmt
deep_seq zero S h = gives_by into_none
deep_seq (suc n) S h = gives_by (into_seq (join_gives (suc n) S h) (λ m f. chain_into (suc n) S h m f))

other_chain_gives : (d : ℕ) (S : Stmt → List Token → Type 0) → Inside d S → Gives (OtherChainWord d S) (StmtFine d) spell_stmt
unfolding OtherChainWord
other_chain_gives d S h = gives_by (into_either (into_gives (deep_seq d S h) (λ x f. f) (λ x. refl))
    (into_either (into_seq (output_gives d) (λ m f. chain_into d S h m f))
    (into_seq (closed_gives d (BelowWord d) (under_below d)) (λ x f. sent_into d S h x f))))

return_spell : (at : ℕ) (x : Option Expr) → spell_stmt (form.Return at x) ≡ word_at "return" at ++ (spell_option x ++ sign ";")
return_spell at x = spell-Return at x

return_gives : (d : ℕ) → Gives (ReturnStmtWord d) (StmtFine d) spell_stmt
return_gives d = gives_by (into_seq (token_at the.return_word) (λ t h. into_end (form.Return t.at) (until_link d).gives
    (λ x f. stmt_by (regular-Return t.at x) (depth-Return t.at x) (option_regular d x f) (option_depth x f)) (λ x. sym (return_spell t.at x))))

deep_nested : (d : ℕ) (S : Stmt → List Token → Type 0) → Inside d S → Gives (Deep d (NestedWord (one_less d) S)) (StmtFine d) spell_stmt
deep_nested zero S h = gives_by into_none
deep_nested (suc n) S h = nested_gives h

pub stmt_by_gives : (d : ℕ) (S : Stmt → List Token → Type 0) → Inside d S → Gives (StmtByWord d S) (StmtFine d) spell_stmt
unfolding StmtByWord
stmt_by_gives d S h = gives_by (into_either (into_seq name_token (λ t i. name_stmt_into d S h t i))
    (into_either (into_gives (deep_nested d S h) (λ x f. f) (λ x. refl))
    (into_either (word_typed_into (typed_into d))
    (into_either (into_seq (token_at the.semicolon) (λ t i. into_just (form.Empty t.at) (stmt_by (regular-Empty t.at) (depth-Empty t.at) refl (omega arith)) (sym (spell-Empty t.at))))
    (into_either (into_gives (return_gives d) (λ x f. f) (λ x. refl))
    (into_either (into_gives (token_gives d S h) (λ x f. f) (λ x. refl))
    (into_either (into_gives (this_gives d S h) (λ x f. f) (λ x. refl))
    (into_gives (other_chain_gives d S h) (λ x f. f) (λ x. refl)))))))))
