-- What the effects of a handler keep, whatever the program: its actor's next numbers, each once; what its
-- messages wait for; and to whom replies are owed.
use Rattle.std.specs.Prelude.{◌≡◌, ◌≢◌, ℕ, ◌+◌, map, ◌≤◌, ◌<◌, ◌⊎◌, nat_eq, true, if◌then◌else◌, List, [], ◌∷◌, ◌++◌, length, Some, None}
use Rattle.sal_value.specs.declared.name.Name.{Name}
use Rattle.sal_value.specs.declared.value.Value.{Value}
use Rattle.sal_value.specs.Spelling.{is_legal, name_is_spelled}
use Rattle.sal_ast.specs.declared.program.Program.{Program}
use Rattle.sal_ast.specs.declared.statement.Stage.{Stage}
use Rattle.sal_ast.specs.declared.statement.Stmt.{Stmt}
use Rattle.sal_ast.specs.declared.statement.Chain.{Chain}
use Rattle.sal_ast.specs.declared.statement.Stage.TheOpen.{Stage-F, Stmt-F, Chain-F}
use Rattle.sal_ast.specs.declared.statement.Stage.TheFolds.{fold-Stage, fold-Stmt, fold-Chain}
use Rattle.sal_ast.specs.Members.{handlers_of}
use Rattle.sal_mail.specs.declared.message.Piece.{Piece}
use Rattle.sal_mail.specs.declared.message.Piece.TheVariants.{Known, Token}
use Rattle.sal_mail.specs.declared.message.Reply.{Reply}
use Rattle.sal_mail.specs.declared.message.Reply.TheVariants.{Nobody, Tok, Place, Outside}
use Rattle.sal_mail.specs.declared.message.Message.{Message}
use Rattle.sal_mail.specs.declared.message.Join.{Join}
use Rattle.sal_mail.specs.declared.effects.Actor.{Actor}
use Rattle.sal_mail.specs.declared.effects.Creation.{Creation}
use Rattle.sal_mail.specs.declared.effects.Answer.{Answer}
use Rattle.sal_mail.specs.declared.effects.Answer.TheVariants as answer
use Rattle.sal_mail.specs.declared.effects.Effects.{Effects}
pub use Rattle.sal_mail.specs.ReplyKeys.{reply_key, owes}
pub use Rattle.sal_mail.specs.Sums.{total}
use Rattle.sal_handler.specs.declared.turn.Outcome.TheVariants.{Done}
use Rattle.sal_handler.specs.Calls.{Call}
use Rattle.sal_handler.specs.Scopes.{fresh_name}
use Rattle.sal_handler.specs.Handler.{handle}

-- it holds of each
abbrev pub EachOf : {X : Type 0} → (X → Type 0) → List X → Type 0
EachOf P [] = Unit {0}
EachOf P (x ∷ xs) = P x × EachOf P xs

-- ---- numbers

-- 1 where the two are one number, else 0
abbrev pub one_if_same : ℕ → ℕ → ℕ
one_if_same k n = if nat_eq k n then 1 else 0

-- how many messages, joins and creations have this number
abbrev pub times_taken : ℕ → List Message → List Join → List Creation → ℕ
times_taken k messages joins creations = total (λ m. one_if_same k m.serial) messages + (total (λ j. one_if_same k j.number) joins + total (λ x. one_if_same k x.serial) creations)

-- from this number on, below that
abbrev pub IsWithin : ℕ → ℕ → ℕ → Type 0
IsWithin from to n = (from ≤ n) × (n < to)

-- ---- arguments

-- it is one of these numbers
abbrev pub IsAmong : ℕ → List ℕ → Type 0
IsAmong n [] = ⊥
IsAmong n (x ∷ xs) = (n ≡ x) ⊎ IsAmong n xs

-- the numbers of all lists
abbrev pub concat_sizes : List (List ℕ) → List ℕ
concat_sizes [] = []
concat_sizes (x ∷ xs) = x ++ concat_sizes xs

-- how many arguments the message stages of a stage have, of a statement, of a chain
abbrev pub sizes_of_stage : Stage-F (List ℕ) (List ℕ) (List ℕ) → List ℕ
sizes_of_stage (Stage-F.Message m) = length m.args ∷ []
sizes_of_stage (Stage-F.Join at body) = concat_sizes body

-- how many arguments the message stages in a statement have
abbrev pub sizes_of_stmt : Stmt-F (List ℕ) (List ℕ) (List ℕ) → List ℕ
sizes_of_stmt (Stmt-F.Empty at) = []
sizes_of_stmt (Stmt-F.Block at list) = concat_sizes list
sizes_of_stmt (Stmt-F.Declare d) = []
sizes_of_stmt (Stmt-F.Assign a) = []
sizes_of_stmt (Stmt-F.If at test first None) = first
sizes_of_stmt (Stmt-F.If at test first (Some second)) = first ++ second
sizes_of_stmt (Stmt-F.While at test body) = body
sizes_of_stmt (Stmt-F.For at first test next body) = body
sizes_of_stmt (Stmt-F.Return at value) = []
sizes_of_stmt (Stmt-F.Token at name chain) = chain
sizes_of_stmt (Stmt-F.Chain chain passed) = chain

-- how many arguments the message stages in a chain have
abbrev pub sizes_of_chain : Chain-F (List ℕ) (List ℕ) (List ℕ) → List ℕ
sizes_of_chain c = concat_sizes c.stages

-- of a stage as a tree
unfoldable pub stage_sizes : Stage → List ℕ
stage_sizes = fold-Stage (List ℕ) (List ℕ) (List ℕ) sizes_of_stage sizes_of_stmt sizes_of_chain

-- of a statement as a tree
unfoldable pub stmt_sizes : Stmt → List ℕ
stmt_sizes = fold-Stmt (List ℕ) (List ℕ) (List ℕ) sizes_of_stage sizes_of_stmt sizes_of_chain

-- of a chain as a tree
unfoldable pub chain_sizes : Chain → List ℕ
chain_sizes = fold-Chain (List ℕ) (List ℕ) (List ℕ) sizes_of_stage sizes_of_stmt sizes_of_chain

-- of the statements of a body
abbrev pub body_sizes : List Stmt → List ℕ
body_sizes body = concat_sizes (map stmt_sizes body)

-- how many arguments the message stages of the program's handlers have
unfoldable pub program_sizes : Program → List ℕ
program_sizes p = concat_sizes (map (λ b. concat_sizes (map (λ h. body_sizes h.body) (handlers_of b))) p.behaviors)

-- ---- messages

-- the value passes no limit, and has a spelling
abbrev pub Legal : Value → Type 0
Legal v = is_legal v ≡ true

-- a token is waited for only if it is of this actor's new numbers
abbrev pub WaitsWithin : ℕ → ℕ → Piece → Type 0
WaitsWithin from to (Known v) = Unit {0}
WaitsWithin from to (Token n) = IsWithin from to n

-- a known value is legal; of a token nothing is asked
abbrev pub IsLegalPiece : Piece → Type 0
IsLegalPiece (Known v) = Legal v
IsLegalPiece (Token n) = Unit {0}

-- the token of a new number, or a slot of a new join
abbrev pub IsNewReply : Name → ℕ → ℕ → Reply → Type 0
IsNewReply me from to Nobody = ⊥
IsNewReply me from to (Tok maker n) = (maker ≡ me) × IsWithin from to n
IsNewReply me from to (Place maker join at) = (maker ≡ me) × IsWithin from to join
IsNewReply me from to (Outside n) = ⊥

-- owed to nobody, to a new token or slot, or to whom the handled message owed its reply
abbrev pub IsAllowedReply : Name → Reply → ℕ → ℕ → Reply → Type 0
IsAllowedReply me caller from to r = (r ≡ Nobody) ⊎ ((r ≡ caller) ⊎ IsNewReply me from to r)

-- a message of the actor, with as many arguments as a message stage has
pub record IsGoodMessage (me : Name) (caller : Reply) (from to : ℕ) (sizes : List ℕ) (m : Message) : Type 0 where
  pub maker : m.maker ≡ me
  pub args : EachOf (WaitsWithin from to) m.args
  pub size : IsAmong (length m.args) sizes
  pub after : EachOf (IsWithin from to) m.after
  pub reply : IsAllowedReply me caller from to m.reply

-- ---- replies

-- how often the new messages and joins owe a reply to this key
abbrev pub times_owed_by : List ℕ → List Message → List Join → ℕ
times_owed_by a messages joins = total (λ m. owes a m.reply) messages + total (λ j. owes a j.reply) joins

-- how often a handler with this answer may have passed its reply on
abbrev pub passes : Answer → ℕ
passes answer.Passed = 1
passes (answer.Value v) = 0

-- ---- actors

-- the new actors take the names in order, from this place on
abbrev pub HaveFreshNames : List Name → ℕ → List Actor → Type 0
HaveFreshNames fresh i [] = Unit {0}
HaveFreshNames fresh i (a ∷ actors) = (a.name ≡ fresh_name fresh i) × HaveFreshNames fresh (i + 1) actors

-- ---- the law

-- the reply is no token and no slot of this actor with a number from this one on
abbrev pub IsOldReply : Name → ℕ → Reply → Type 0
IsOldReply me from Nobody = Unit {0}
IsOldReply me from (Tok maker n) = maker ≡ me → n < from
IsOldReply me from (Place maker join at) = maker ≡ me → join < from
IsOldReply me from (Outside n) = Unit {0}

-- A call with legal values and a reply owed to no number from the next one on. Names have spellings, as all names of configurations do.
pub record IsSoundCall (c : Call) : Type 0 where
  pub fields : EachOf Legal c.fields
  pub args : EachOf Legal c.args
  pub reply : IsOldReply c.me c.serial c.reply
  pub me : name_is_spelled c.me ≡ true
  pub names : EachOf (λ n. name_is_spelled n ≡ true) c.names

-- numbers, what is waited for, and to whom replies are owed
pub record IsOrderly (sizes : List ℕ) (c : Call) (e : Effects) : Type 0 where
  -- numbers are taken from the actor's next number on, each once, below its new next number
  pub rises : c.serial ≤ e.serial
  pub once : (k : ℕ) → times_taken k e.messages e.joins e.creations ≤ 1
  pub low : (k : ℕ) → k < c.serial → times_taken k e.messages e.joins e.creations ≡ 0
  pub high : (k : ℕ) → e.serial ≤ k → times_taken k e.messages e.joins e.creations ≡ 0
  -- messages are the actor's own, with as many arguments as a stage of the program, and wait only for such numbers
  pub messages : EachOf (IsGoodMessage c.me c.reply c.serial e.serial sizes) e.messages
  pub joins : EachOf (λ j. IsAllowedReply c.me c.reply c.serial e.serial j.reply) e.joins
  -- to each at most one reply is owed, and the handled message's only where it was passed on
  pub owed_once : (r : Reply) → r ≢ Nobody → times_owed_by (reply_key r) e.messages e.joins ≤ 1
  pub passed : c.reply ≢ Nobody → times_owed_by (reply_key c.reply) e.messages e.joins ≤ passes e.answer
  -- new actors take the names in order, and fields stay as many as they were
  pub names : HaveFreshNames c.names 0 e.actors
  pub count : length e.fields ≡ length c.fields

-- orderly, and all values are legal
pub record IsWellFormed (sizes : List ℕ) (c : Call) (e : Effects) : Type 0 where
  pub order : IsOrderly sizes c e
  -- known values and fields are legal
  pub args : EachOf (λ m. EachOf IsLegalPiece m.args) e.messages
  pub actors : EachOf (λ a. EachOf Legal a.fields) e.actors
  pub creations : EachOf (λ x. EachOf Legal x.fields) e.creations
  pub fields : EachOf Legal e.fields

-- The effects of every handler of every program are orderly, where the reply is owed to no number from the next one on,
abbrev pub HandlersAreOrderly : Type 0
HandlersAreOrderly = (p : Program) (c : Call) (e : Effects) → IsOldReply c.me c.serial c.reply → handle p c ≡ Done e → IsOrderly (program_sizes p) c e

-- and well-formed, where the call is sound.
abbrev pub HandlersAreWellFormed : Type 0
HandlersAreWellFormed = (p : Program) (c : Call) (e : Effects) → IsSoundCall c → handle p c ≡ Done e → IsWellFormed (program_sizes p) c e
