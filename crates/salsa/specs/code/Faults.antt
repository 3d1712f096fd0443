-- The faults of the lexer, the parser and the type checker, as faults of reading.
use Rattle.sal_text.specs.declared.token.LexFault.{LexFault}
use Rattle.sal_text.specs.declared.token.LexFault.TheVariants as lex
use Rattle.sal_parse.specs.declared.fault.ParseFault.{ParseFault}
use Rattle.sal_parse.specs.declared.fault.ParseFault.TheVariants as parse
use Rattle.sal_sorts.specs.declared.fault.TypeFault.{TypeFault}
use Rattle.sal_sorts.specs.declared.fault.TypeFault.TheVariants as types
use Rattle.salsa.specs.declared.refusal.Refusal.TheVariants.{Lexical, Grammar, Typing}
use Rattle.salsa.specs.declared.refusal.ReadFault.{ReadFault}
use Rattle.salsa.specs.declared.refusal.ReadFault.TheVariants.{Refused, Memory}

abbrev pub of_lexer : LexFault → ReadFault
of_lexer (lex.Refused rule at) = Refused (Lexical rule at)
of_lexer lex.Memory = Memory

abbrev pub of_parser : ParseFault → ReadFault
of_parser (parse.Refused rule token at bracket) = Refused (Grammar rule at bracket)
of_parser parse.Memory = Memory

abbrev pub of_checker : TypeFault → ReadFault
of_checker (types.Refused rule at) = Refused (Typing rule at)
of_checker types.Memory = Memory
