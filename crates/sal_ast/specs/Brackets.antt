-- The brackets and prefix signs of a program's tokens.
use Rattle.std.specs.Prelude.{◌≡◌, ◌≢◌, ℕ, ◌+◌, ◌*◌, Bool, true, false, if◌then◌else◌, nat_lt, List, [], ◌∷◌, length, Option, Some, None, option_and_then, codes}
use Rattle.std.specs.Str.{bytes_eq}
use Rattle.sal_ast.specs.declared.lexeme.Kind.{Kind}
use Rattle.sal_ast.specs.declared.lexeme.Kind.TheVariants as kind
use Rattle.sal_ast.specs.declared.program.Program.{Program}
use Rattle.sal_ast.specs.Depth.{depth}
use Rattle.sal_ast.specs.Regular.{is_regular}
use Rattle.sal_ast.specs.Spell.{TreeToken, TreeTokens, spell}

pub data Bracket : Type 0 where
  Round : Bracket
  Square : Bracket
  Curly : Bracket

abbrev pub is_same_bracket : Bracket → Bracket → Bool
is_same_bracket Round Round = true
is_same_bracket Square Square = true
is_same_bracket Curly Curly = true
is_same_bracket _ _ = false

pub data TokenRole : Type 0 where
  Opens : Bracket → TokenRole
  Closes : Bracket → TokenRole
  Waits : TokenRole
  Keeps : TokenRole

abbrev pub sign_role : List ℕ → TokenRole
sign_role text =
    if bytes_eq text (codes "(") then Opens Round
    else (if bytes_eq text (codes ")") then Closes Round
    else (if bytes_eq text (codes "[") then Opens Square
    else (if bytes_eq text (codes "]") then Closes Square
    else (if bytes_eq text (codes "{") then Opens Curly
    else (if bytes_eq text (codes "}") then Closes Curly
    else (if bytes_eq text (codes "-") then Waits
    else (if bytes_eq text (codes "!") then Waits else Keeps)))))))

abbrev pub kind_role : Kind → List ℕ → TokenRole
kind_role kind.Sign text = sign_role text
kind_role _ text = Keeps

-- a bracket opens or closes; `-` and `!` may wait for the operand after them
abbrev pub role_of : TreeToken → TokenRole
role_of p = kind_role p.kind p.text

-- the state after a list of tokens, which a step may refuse
abbrev pub state_after : {S : Type 0} → (S → TokenRole → Option S) → S → TreeTokens → Option S
state_after step state [] = Some state
state_after step state (p ∷ ps) = option_and_then (λ next. state_after step next ps) (step state (role_of p))

-- one more on the stack, the last one first; no more than `most` may be there
abbrev pub push_below : {A : Type 0} → ℕ → A → List A → Option (List A)
push_below most item stack = if nat_lt (length stack) most then Some (item ∷ stack) else None

abbrev pub pop_bracket : Bracket → List Bracket → Option (List Bracket)
pop_bracket b [] = None
pop_bracket b (c ∷ stack) = if is_same_bracket b c then Some stack else None

-- the open brackets after a token
abbrev pub bracket_step : ℕ → List Bracket → TokenRole → Option (List Bracket)
bracket_step most stack (Opens b) = push_below most b stack
bracket_step most stack (Closes b) = pop_bracket b stack
bracket_step most stack _ = Some stack

-- Each bracket of a program is closed by its own kind, and at most three more are open at once than the program is deep:
-- the braces of a behaviour and of a handler, and a message's parentheses or a type's brackets.
abbrev pub BracketsAreClosed : Type 0
BracketsAreClosed = (p : Program) → state_after (bracket_step (depth p + 3)) [] (spell p) ≡ Some []

-- what waits: an open bracket for its end, a sign for its operand
pub data StackSymbol : Type 0 where
  Within : Bracket → StackSymbol
  Before : StackSymbol

-- what waits still, once the operand of the last signs is there
abbrev pub without_signs : List StackSymbol → List StackSymbol
without_signs [] = []
without_signs (Before ∷ stack) = without_signs stack
without_signs (Within b ∷ stack) = Within b ∷ stack

-- a bracket that is closed may be the operand of the signs before it
abbrev pub close_bracket : Bracket → List StackSymbol → Option (List StackSymbol)
close_bracket b (Within c ∷ stack) = if is_same_bracket b c then Some (without_signs stack) else None
close_bracket b _ = None

-- what waits after a token; each `-` counts here, also one between two operands
abbrev pub stack_step : ℕ → List StackSymbol → TokenRole → Option (List StackSymbol)
stack_step most stack (Opens b) = push_below most (Within b) stack
stack_step most stack (Closes b) = close_bracket b (without_signs stack)
stack_step most stack Waits = push_below most Before stack
stack_step most stack Keeps = Some (without_signs stack)

-- At most twice as many brackets and signs wait at once as the program is deep, and four more: the braces of a behaviour and
-- of a handler, a message's parentheses and a `-`. In the end none waits.
abbrev pub PrefixSignsAreBounded : Type 0
PrefixSignsAreBounded = (p : Program) → state_after (stack_step (2 * depth p + 4)) [] (spell p) ≡ Some []

-- a regular program has tokens
abbrev pub SpellingsAreNotEmpty : Type 0
SpellingsAreNotEmpty = (p : Program) → is_regular p ≡ true → spell p ≢ []
