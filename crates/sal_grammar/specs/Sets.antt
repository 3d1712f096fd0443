-- Sets of classes.
use Rattle.std.specs.Prelude.{true, false, ◌||◌}
use Rattle.sal_grammar.specs.declared.class.Class.TheVariants as k
use Rattle.sal_grammar.specs.Tokens.{Set}

abbrev pub open_brace : Set
open_brace k.OpenBrace = true
open_brace _ = false

abbrev pub close_brace : Set
close_brace k.CloseBrace = true
close_brace _ = false

abbrev pub open_paren : Set
open_paren k.OpenParen = true
open_paren _ = false

abbrev pub close_paren : Set
close_paren k.CloseParen = true
close_paren _ = false

abbrev pub open_bracket : Set
open_bracket k.OpenBracket = true
open_bracket _ = false

abbrev pub close_bracket : Set
close_bracket k.CloseBracket = true
close_bracket _ = false

abbrev pub semicolon : Set
semicolon k.Semicolon = true
semicolon _ = false

abbrev pub comma : Set
comma k.Comma = true
comma _ = false

abbrev pub dot : Set
dot k.Dot = true
dot _ = false

abbrev pub assign : Set
assign k.Assign = true
assign _ = false

abbrev pub then_sign : Set
then_sign k.Then = true
then_sign _ = false

abbrev pub colon : Set
colon k.Colon = true
colon _ = false

abbrev pub arrow : Set
arrow k.Arrow = true
arrow _ = false

abbrev pub getter : Set
getter k.Getter = true
getter _ = false

abbrev pub at : Set
at k.At = true
at _ = false

abbrev pub delay : Set
delay k.Delay = true
delay _ = false

abbrev pub wait_for : Set
wait_for k.WaitFor = true
wait_for _ = false

abbrev pub length : Set
length k.Length = true
length _ = false

abbrev pub behavior : Set
behavior k.Behavior = true
behavior _ = false

abbrev pub new : Set
new k.New = true
new _ = false

abbrev pub void : Set
void k.Void = true
void _ = false

abbrev pub token : Set
token k.Token = true
token _ = false

abbrev pub join : Set
join k.Join = true
join _ = false

abbrev pub if_word : Set
if_word k.If = true
if_word _ = false

abbrev pub else_word : Set
else_word k.Else = true
else_word _ = false

abbrev pub while_word : Set
while_word k.While = true
while_word _ = false

abbrev pub for_word : Set
for_word k.For = true
for_word _ = false

abbrev pub return_word : Set
return_word k.Return = true
return_word _ = false

abbrev pub true_word : Set
true_word k.True = true
true_word _ = false

abbrev pub false_word : Set
false_word k.False = true
false_word _ = false

abbrev pub null : Set
null k.Null = true
null _ = false

abbrev pub me : Set
me k.Me = true
me _ = false

abbrev pub this : Set
this k.This = true
this _ = false

abbrev pub current : Set
current k.Current = true
current _ = false

abbrev pub output : Set
output k.Output = true
output _ = false

abbrev pub number : Set
number k.Number = true
number _ = false

abbrev pub str : Set
str k.Str = true
str _ = false

abbrev pub end : Set
end k.End = true
end _ = false

-- identifiers, also those that the grammar spells out
abbrev pub id : Set
id k.Id = true
id k.At = true
id k.Delay = true
id k.WaitFor = true
id k.Length = true
id k.Getter = true
id _ = false

-- the words of types
abbrev pub sort_word : Set
sort_word k.Int = true
sort_word k.Boolean = true
sort_word k.Text = true
sort_word _ = false

abbrev pub bool : Set
bool k.True = true
bool k.False = true
bool _ = false

abbrev pub or : Set
or k.Or = true
or _ = false

abbrev pub and : Set
and k.And = true
and _ = false

abbrev pub equal : Set
equal k.Same = true
equal k.Other = true
equal _ = false

abbrev pub relation : Set
relation k.Less = true
relation k.LessEq = true
relation k.Greater = true
relation k.GreaterEq = true
relation _ = false

abbrev pub sum : Set
sum k.Plus = true
sum k.Minus = true
sum _ = false

abbrev pub product : Set
product k.Star = true
product k.Slash = true
product k.Percent = true
product _ = false

abbrev pub prefix : Set
prefix k.Minus = true
prefix k.Not = true
prefix _ = false

-- an index or `.length`
abbrev pub suffix : Set
suffix k.OpenBracket = true
suffix k.Dot = true
suffix _ = false

-- what could go on after an operand: an index, `.length`, and identifiers (`at`, and behind a cast)
abbrev pub after_unary : Set
after_unary c = suffix c || id c

-- primary expressions of one token, but for names
abbrev pub plain : Set
plain k.Number = true
plain k.Str = true
plain k.True = true
plain k.False = true
plain k.Null = true
plain k.Me = true
plain _ = false

-- what a postfix begins with
abbrev pub first_closed : Set
first_closed k.OpenParen = true
first_closed k.New = true
first_closed c = plain c

abbrev pub first_other : Set
first_other c = this c || first_closed c

abbrev pub first_postfix : Set
first_postfix c = id c || first_other c

-- what an expression begins with
abbrev pub first_expr : Set
first_expr c = prefix c || first_postfix c

-- what could go on after an expression
abbrev pub after_expr : Set
after_expr c = after_unary c || product c || sum c || relation c || equal c || and c || or c

-- what a type begins with
abbrev pub sort : Set
sort c = sort_word c || id c

-- what a stage begins with
abbrev pub first_stage : Set
first_stage c = join c || output c || first_postfix c

-- statements that count
abbrev pub nest : Set
nest k.OpenBrace = true
nest k.If = true
nest k.While = true
nest k.For = true
nest _ = false

-- what a statement begins with
abbrev pub first_stmt : Set
first_stmt c = nest c || semicolon c || return_word c || token c || sort_word c || first_stage c

-- what a member begins with
abbrev pub first_member : Set
first_member c = void c || sort c
