-- What a table has to be to be a plan: the rules Q1 to Q8, each with the test that finds it broken.
use Rattle.std.specs.Prelude.{ℕ, nat_le, nat_lt, nat_eq, Bool, false, ◌&&◌, ◌||◌, not, List, [], ◌∷◌, ◌++◌, length, map, codes, Option, Some, None, is_some}
use Rattle.std.specs.List.{list_any}
use Rattle.std.specs.Str.{bytes_eq}
use Rattle.toml.specs.Data.{Data, array, Items, no_items, item, Members, no_members, member, get_member, as_str}
use Rattle.sal_value.specs.declared.name.Authority.{Authority}
use Rattle.sal_value.specs.declared.name.Ual.{Ual}
use Rattle.sal_value.specs.declared.value.Value.{Value}
use Rattle.sal_value.specs.declared.value.Value.TheVariants.{Str, Array}
use Rattle.sal_value.specs.Names.{ual_of}
use Rattle.sal_value.specs.Spelling.{is_legal}
use Rattle.sal_plan.specs.declared.constants.TheConstants.{MOST_THEATRES, MOST_SERVICES}
use Rattle.sal_plan.specs.Services.{authority_of}

-- ---- lists of texts

-- one more, if it and the others are there
abbrev pub cons_some : {A : Type 0} → Option A → Option (List A) → Option (List A)
cons_some None rest = None
cons_some (Some x) None = None
cons_some (Some x) (Some rest) = Some (x ∷ rest)

-- what each item gives, if each gives something
abbrev pub each : {A B : Type 0} → (A → Option B) → List A → Option (List B)
each f [] = Some []
each f (x ∷ xs) = cons_some (f x) (each f xs)

-- the items, or none
abbrev pub or_empty : {A : Type 0} → Option (List A) → List A
or_empty None = []
or_empty (Some xs) = xs

abbrev pub is_missing : {A : Type 0} → Option A → Bool
is_missing o = not (is_some o)

-- the texts that these items are, if each is one
abbrev pub texts_of_items : Items → Option (List (List ℕ))
texts_of_items no_items = Some []
texts_of_items (item d ds) = cons_some (as_str d) (texts_of_items ds)

-- the texts of a list of texts
abbrev pub texts_of : Data → Option (List (List ℕ))
texts_of (array items) = texts_of_items items
texts_of _ = None

-- the same of what stands at a key; where nothing stands there, there is no list
abbrev pub required_texts : Option Data → Option (List (List ℕ))
required_texts None = None
required_texts (Some d) = texts_of d

-- or the empty one
abbrev pub optional_texts : Option Data → Option (List (List ℕ))
optional_texts None = Some []
optional_texts (Some d) = texts_of d

-- the texts of the table at the three keys
unfoldable pub theatre_texts : Members → Option (List (List ℕ))
theatre_texts t = required_texts (get_member (codes "theatres") t)

unfoldable pub service_texts : Members → Option (List (List ℕ))
service_texts t = optional_texts (get_member (codes "names") t)

unfoldable pub word_texts : Members → Option (List (List ℕ))
word_texts t = optional_texts (get_member (codes "words") t)

-- ---- theatres

-- the locators that they write
unfoldable pub locators_of : Option (List (List ℕ)) → Option (List Ual)
locators_of texts = each ual_of (or_empty texts)

-- Q1: `theatres` is missing or no list of texts. Q2: it doesn't have 1 to 8 entries. Q3: an entry is no locator.
abbrev pub theatre_rules : Option (List (List ℕ)) → List Bool
theatre_rules texts =
    is_missing texts
    ∷ not (nat_le 1 (length (or_empty texts)) && nat_le (length (or_empty texts)) MOST_THEATRES)
    ∷ is_missing (locators_of texts)
    ∷ []

-- ---- naming services

-- the hosts and ports that they write
unfoldable pub authorities_of : Option (List (List ℕ)) → Option (List Authority)
authorities_of texts = each authority_of (or_empty texts)

-- Q4: `names` is no list of texts. Q5: it has more than 4 entries. Q6: an entry is no host with an optional port.
abbrev pub service_rules : Option (List (List ℕ)) → List Bool
service_rules texts =
    is_missing texts
    ∷ nat_lt MOST_SERVICES (length (or_empty texts))
    ∷ is_missing (authorities_of texts)
    ∷ []

-- ---- addresses

abbrev pub is_same_address : Authority → Authority → Bool
is_same_address a b = bytes_eq a.host b.host && nat_eq a.port b.port

-- one of them occurs twice
abbrev pub has_repeat : List Authority → Bool
has_repeat [] = false
has_repeat (a ∷ rest) = list_any (is_same_address a) rest || has_repeat rest

abbrev pub locator_address : Ual → Authority
locator_address l = record { host = l.host; port = l.port }

-- Q7: a host and port occurs twice over both lists
abbrev pub address_rules : List Ual → List Authority → List Bool
address_rules theatres names = has_repeat (map locator_address theatres ++ names) ∷ []

-- ---- words

abbrev pub is_plan_key : List ℕ → Bool
is_plan_key key = bytes_eq key (codes "theatres") || (bytes_eq key (codes "names") || bytes_eq key (codes "words"))

-- another key is there
abbrev pub has_other_key : Members → Bool
has_other_key no_members = false
has_other_key (member key d ms) = not (is_plan_key key) || has_other_key ms

abbrev pub words_of : Option (List (List ℕ)) → List Value
words_of texts = map Str (or_empty texts)

-- Q8: `words` is no list of texts or no legal value, or another key is there
abbrev pub word_rules : Option (List (List ℕ)) → Members → List Bool
word_rules texts t = (is_missing texts || (not (is_legal (Array (words_of texts))) || has_other_key t)) ∷ []
