-- The types of expressions, as far as they are written: a behaviour's type holds its name, whether there is such a behaviour
-- or not, and `null` and `void` have types of their own.
use Rattle.std.specs.Prelude.{ℕ, ◌+◌, ◌-◌, Bool, true, false, ◌&&◌, ◌||◌, nat_eq, nat_lt, Option, Some, None}
use Rattle.std.specs.Str.{bytes_eq}
use Rattle.sal_ast.specs.declared.program.BaseName.{BaseName}
use Rattle.sal_ast.specs.declared.program.BaseName.TheVariants as word
use Rattle.sal_ast.specs.declared.program.TypeName.{TypeName}
use Rattle.sal_sorts.specs.declared.sort.Base.{Base}
use Rattle.sal_sorts.specs.declared.sort.Base.TheVariants.{Int, Boolean, Str, Actor, Void, Null}
use Rattle.sal_sorts.specs.declared.sort.Sort.{Sort}

-- whether two bases are one
abbrev pub is_same_base : Base → Base → Bool
is_same_base Int Int = true
is_same_base Boolean Boolean = true
is_same_base Str Str = true
is_same_base (Actor a) (Actor b) = bytes_eq a b
is_same_base Void Void = true
is_same_base Null Null = true
is_same_base _ _ = false

-- whether two types are one
unfoldable pub is_same_sort : Sort → Sort → Bool
is_same_sort a b = is_same_base a.base b.base && nat_eq a.dims b.dims

-- a type without brackets
abbrev pub plain : Base → Sort
plain b = record { base = b; dims = 0 }

-- `int`
unfoldable pub is_int_sort : Sort → Bool
is_int_sort a = is_same_sort a (plain Int)

-- `boolean`
unfoldable pub is_boolean_sort : Sort → Bool
is_boolean_sort a = is_same_sort a (plain Boolean)

-- `String`
unfoldable pub is_text_sort : Sort → Bool
is_text_sort a = is_same_sort a (plain Str)

-- the type of `null`
unfoldable pub is_null_sort : Sort → Bool
is_null_sort a = is_same_sort a (plain Null)

-- no result
unfoldable pub is_void_sort : Sort → Bool
is_void_sort a = is_same_sort a (plain Void)

-- what can be printed, or joined to a text
unfoldable pub is_printable_sort : Sort → Bool
is_printable_sort a = is_text_sort a || is_int_sort a || is_boolean_sort a

-- it has brackets
unfoldable pub is_array_sort : Sort → Bool
is_array_sort a = nat_lt 0 a.dims

-- what an array holds, so many levels below
unfoldable pub sort_below : Sort → ℕ → Sort
sort_below a levels = record { base = a.base; dims = a.dims - levels }

-- an array's items
unfoldable pub item_sort : Sort → Sort
item_sort a = record { base = a.base; dims = a.dims - 1 }

-- an array of these
unfoldable pub array_sort : Sort → Sort
array_sort a = record { base = a.base; dims = a.dims + 1 }

-- the base that a name means
abbrev pub base_of : BaseName → Base
base_of word.Int = Int
base_of word.Boolean = Boolean
base_of word.Str = Str
base_of (word.Actor name) = Actor name

-- the type that a type's name means
unfoldable pub sort_of_type : TypeName → Sort
sort_of_type t = record { base = base_of t.base; dims = t.dims }

-- the result of a handler; where none is written it is void
abbrev pub sort_of_result : Option TypeName → Sort
sort_of_result None = plain Void
sort_of_result (Some t) = sort_of_type t
