-- What one turn of a loop adds to the tokens.
use Rattle.std.proofs.Common.{◌≡◌, ℕ, suc, ◌+◌, ◌-◌, ◌<◌, ◌≤◌, Bool, true, false, List, [], ◌++◌, Option, Some, None, Result, Ok, Err, OnOk, refl, sym, ap, ◌∙◌, append_assoc, arith}
use Rattle.std.proofs.lemmas.List.{map-append}
use Rattle.sal_ast.specs.declared.lexeme.Lexeme.{Lexeme}
use Prim.Native.String.{String}
use Rattle.sal_ast.specs.declared.program.Ident.{Ident}
use Rattle.sal_ast.specs.Spell.{TreeTokens, Adds, brackets, sign, lexeme_of, lexemes, spell_reference, each_after_sign, separated_tokens}

pub brackets_next : (n i : ℕ) → i < n → brackets (n - i) ≡ sign "[" ++ sign "]" ++ brackets (n - (i + 1))
unfolding brackets
brackets_next n i h = let e : n - i ≡ suc (n - (i + 1)) = omega arith in ap brackets e

pub brackets_end : (n i : ℕ) → n ≤ i → brackets (n - i) ≡ []
unfolding brackets
brackets_end n i h = let e : n - i ≡ 0 = omega arith in ap brackets e

-- the place of a cast is in no lexeme
pub reference_place : (at : ℕ) (cast : Option Ident) (behavior : Ident) → lexemes (spell_reference at cast behavior) ≡ lexemes (spell_reference 0 cast behavior)
unfolding spell_reference
reference_place at None behavior = refl
reference_place at (Some name) behavior = refl

-- what is still to be spelled of a list with a sign between its items
abbrev pub go_on : Bool → String → List TreeTokens → TreeTokens
go_on true text xs = each_after_sign text xs
go_on false text xs = separated_tokens text xs

-- what is added last
pub added : {A E : Type 0} (r : Result A E) (a b c : List Lexeme) (p q : TreeTokens) → Adds a b p → OnOk r (Adds b c q) → OnOk r (Adds a c (p ++ q))
added (Ok x) a b c p q e f = f ∙ ap (λ l. l ++ lexemes q) e ∙ append_assoc a (lexemes p) (lexemes q) ∙ ap (λ l. a ++ l) (sym (map-append lexeme_of p q))
added (Err x) a b c p q e f = tt
