-- The test of whether rows are the same says so.
use Rattle.std.proofs.Common.{◌≡◌, ℕ, ◌==◌, ◌&&◌, Bool, true, false, List, [], ◌∷◌, refl, ap, ◌∙◌}
use Rattle.std.specs.Str.{bytes_eq}
use Rattle.std.proofs.lemmas.Bool.{and_parts, eqb-true}
use Rattle.std.proofs.lemmas.Slice.Eq.{bytes_eq-Decides}
use Rattle.node_core.specs.declared.kinds.Kind.{Kind}
use Rattle.node_core.specs.declared.kinds.Kind.TheVariants.{File, Directory}
use Rattle.node_core.specs.declared.kinds.Life.{Life}
use Rattle.node_core.specs.declared.kinds.Life.TheVariants.{Permanent, Ephemeral}
use Rattle.node_core.specs.declared.nodes.Node.{Node}
use Rattle.rows_cell.specs.declared.tables.Rows.{Rows}
use Rattle.rows_cell.specs.declared.tables.StoredNode.{StoredNode}
use Rattle.rows_cell.specs.declared.tables.SessionRow.{SessionRow}
use Rattle.rows_cell.specs.declared.tables.LockRow.{LockRow}
use Rattle.rows_cell.specs.declared.tables.LockState.{LockState}
use Rattle.rows_cell.specs.declared.tables.LockState.TheVariants.{Lapsed, Exclusive, Shared}
use Rattle.rows_cell.specs.declared.keys.LockKey.{LockKey}
use Rattle.rows_cell.specs.Rows.{StoredNodes, StoredLocks}
use Rattle.codec.specs.Forms.{flag}
use Rattle.codec.specs.Fields.{kind_place, life_place}
use Rattle.rows_remote.specs.Forms.{state_place}
use Rattle.rows_remote.specs.Keeping.{same_numbers, same_names, same_node, same_stored, same_session, same_key, same_lock, all_same, same_own, same_rows}

three_parts : (a b c : Bool) → (a && b && c) ≡ true → (a ≡ true) × (b ≡ true) × (c ≡ true)
three_parts true true true h = (refl, refl, refl)
three_parts _ _ _ h = cc

four_parts : (a b c d : Bool) → (a && b && c && d) ≡ true → (a ≡ true) × (b ≡ true) × (c ≡ true) × (d ≡ true)
four_parts true true true true h = (refl, refl, refl, refl)
four_parts _ _ _ _ h = cc

five_parts : (a b c d e : Bool) → (a && b && c && d && e) ≡ true → (a ≡ true) × (b ≡ true) × (c ≡ true) × (d ≡ true) × (e ≡ true)
five_parts true true true true true h = (refl, refl, refl, refl, refl)
five_parts _ _ _ _ _ h = cc

same_bytes : (x y : List ℕ) → bytes_eq x y ≡ true → x ≡ y
same_bytes x y h = (bytes_eq-Decides x y).0 h

-- ---- choices

kind_same : (x y : Kind) → kind_place x ≡ kind_place y → x ≡ y
kind_same File File h = refl
kind_same Directory Directory h = refl
kind_same File Directory h = cc
kind_same Directory File h = cc

life_same : (x y : Life) → life_place x ≡ life_place y → x ≡ y
life_same Permanent Permanent h = refl
life_same Ephemeral Ephemeral h = refl
life_same Permanent Ephemeral h = cc
life_same Ephemeral Permanent h = cc

state_same : (x y : LockState) → state_place x ≡ state_place y → x ≡ y
state_same Lapsed Lapsed h = refl
state_same Exclusive Exclusive h = refl
state_same Shared Shared h = refl
state_same Lapsed Exclusive h = cc
state_same Lapsed Shared h = cc
state_same Exclusive Lapsed h = cc
state_same Exclusive Shared h = cc
state_same Shared Lapsed h = cc
state_same Shared Exclusive h = cc

flag_same : (x y : Bool) → flag x ≡ flag y → x ≡ y
flag_same true true h = refl
flag_same false false h = refl
flag_same true false h = cc
flag_same false true h = cc

-- ---- rows

node_by : (x y : Node) → x.kind ≡ y.kind → x.instance ≡ y.instance → x.content_generation ≡ y.content_generation → x.acl_generation ≡ y.acl_generation
    → x.read ≡ y.read → x.write ≡ y.write → x.change ≡ y.change → x.life ≡ y.life → x.content ≡ y.content → x ≡ y
node_by x y k i c a r w n l t =
    let made : Kind → ℕ → ℕ → ℕ → List ℕ → List ℕ → List ℕ → Life → List ℕ → Node =
    λ kind instance content_generation acl_generation read write change life content.
    record { kind = kind; instance = instance; content_generation = content_generation; acl_generation = acl_generation; read = read; write = write; change = change; life = life; content = content } in
    ap (λ z. made z x.instance x.content_generation x.acl_generation x.read x.write x.change x.life x.content) k
    ∙ ap (λ z. made y.kind z x.content_generation x.acl_generation x.read x.write x.change x.life x.content) i
    ∙ ap (λ z. made y.kind y.instance z x.acl_generation x.read x.write x.change x.life x.content) c
    ∙ ap (λ z. made y.kind y.instance y.content_generation z x.read x.write x.change x.life x.content) a
    ∙ ap (λ z. made y.kind y.instance y.content_generation y.acl_generation z x.write x.change x.life x.content) r
    ∙ ap (λ z. made y.kind y.instance y.content_generation y.acl_generation y.read z x.change x.life x.content) w
    ∙ ap (λ z. made y.kind y.instance y.content_generation y.acl_generation y.read y.write z x.life x.content) n
    ∙ ap (λ z. made y.kind y.instance y.content_generation y.acl_generation y.read y.write y.change z x.content) l
    ∙ ap (λ z. made y.kind y.instance y.content_generation y.acl_generation y.read y.write y.change y.life z) t

node_same : (x y : Node) → same_node x y ≡ true → x ≡ y
node_same x y h =
    let parts = four_parts (same_numbers x y) (same_names x y) (life_place x.life == life_place y.life) (bytes_eq x.content y.content) h in
    let ns = four_parts (kind_place x.kind == kind_place y.kind) (x.instance == y.instance) (x.content_generation == y.content_generation) (x.acl_generation == y.acl_generation) parts.0 in
    let ts = three_parts (bytes_eq x.read y.read) (bytes_eq x.write y.write) (bytes_eq x.change y.change) parts.1 in
    node_by x y (kind_same x.kind y.kind (eqb-true _ _ ns.0)) (eqb-true _ _ ns.1) (eqb-true _ _ ns.2) (eqb-true _ _ ns.3)
    (same_bytes x.read y.read ts.0) (same_bytes x.write y.write ts.1) (same_bytes x.change y.change ts.2) (life_same x.life y.life (eqb-true _ _ parts.2))
    (same_bytes x.content y.content parts.3)

stored_same : (x y : List ℕ × StoredNode) → same_stored x y ≡ true → x ≡ y
stored_same x y h =
    let parts = three_parts (bytes_eq x.0 y.0) (same_node x.1.node y.1.node) (x.1.lock_generation == y.1.lock_generation) h in
    let made : List ℕ → Node → ℕ → List ℕ × StoredNode = λ text node generation. (text, record { node = node; lock_generation = generation }) in
    ap (λ z. made z x.1.node x.1.lock_generation) (same_bytes x.0 y.0 parts.0)
    ∙ ap (λ z. made y.0 z x.1.lock_generation) (node_same x.1.node y.1.node parts.1)
    ∙ ap (λ z. made y.0 y.1.node z) (eqb-true _ _ parts.2)

session_same : (x y : ℕ × SessionRow) → same_session x y ≡ true → x ≡ y
session_same x y h =
    let parts = three_parts (x.0 == y.0) (bytes_eq x.1.principal y.1.principal) (flag x.1.live == flag y.1.live) h in
    let made : ℕ → List ℕ → Bool → ℕ × SessionRow = λ client principal live. (client, record { principal = principal; live = live }) in
    ap (λ z. made z x.1.principal x.1.live) (eqb-true _ _ parts.0)
    ∙ ap (λ z. made y.0 z x.1.live) (same_bytes x.1.principal y.1.principal parts.1)
    ∙ ap (λ z. made y.0 y.1.principal z) (flag_same x.1.live y.1.live (eqb-true _ _ parts.2))

lock_same : (x y : LockKey × LockRow) → same_lock x y ≡ true → x ≡ y
lock_same x y h =
    let parts = three_parts (same_key x.0 y.0) (state_place x.1.state == state_place y.1.state) (x.1.delay == y.1.delay) h in
    let ks = three_parts (x.0.instance == y.0.instance) (x.0.client == y.0.client) (x.0.handle == y.0.handle) parts.0 in
    let made : ℕ → ℕ → ℕ → LockState → ℕ → LockKey × LockRow =
    λ instance client handle state delay. (record { instance = instance; client = client; handle = handle }, record { state = state; delay = delay }) in
    ap (λ z. made z x.0.client x.0.handle x.1.state x.1.delay) (eqb-true _ _ ks.0)
    ∙ ap (λ z. made y.0.instance z x.0.handle x.1.state x.1.delay) (eqb-true _ _ ks.1)
    ∙ ap (λ z. made y.0.instance y.0.client z x.1.state x.1.delay) (eqb-true _ _ ks.2)
    ∙ ap (λ z. made y.0.instance y.0.client y.0.handle z x.1.delay) (state_same x.1.state y.1.state (eqb-true _ _ parts.1))
    ∙ ap (λ z. made y.0.instance y.0.client y.0.handle y.1.state z) (eqb-true _ _ parts.2)

all_by : {X : Type 0} (same : X → X → Bool) → ((x y : X) → same x y ≡ true → x ≡ y) → (xs ys : List X) → all_same same xs ys ≡ true → xs ≡ ys
all_by same each [] [] h = refl
all_by same each [] (y ∷ ys) h = cc
all_by same each (x ∷ xs) [] h = cc
all_by {X = X} same each (x ∷ xs) (y ∷ ys) h =
    let parts = and_parts (same x y) (all_same same xs ys) h in
    ap (λ (z : X). z ∷ xs) (each x y parts.0) ∙ ap (λ (zs : List X). y ∷ zs) (all_by same each xs ys parts.1)

-- rows that the test finds the same are equal
pub rows_same : (x y : Rows) → same_rows x y ≡ true → x ≡ y
rows_same x y h =
    let parts = four_parts (same_own x y) (all_same same_stored x.nodes y.nodes) (all_same same_session x.sessions y.sessions) (all_same same_lock x.locks y.locks) h in
    let os = five_parts (bytes_eq x.cell y.cell) (bytes_eq x.secret y.secret) (x.epoch == y.epoch) (x.next_instance == y.next_instance) (x.ended_below == y.ended_below) parts.0 in
    let made : List ℕ → List ℕ → ℕ → ℕ → ℕ → StoredNodes → List (ℕ × SessionRow) → StoredLocks → Rows =
    λ cell secret epoch next ended nodes sessions locks. record { cell = cell; secret = secret; epoch = epoch; next_instance = next; nodes = nodes; sessions = sessions; ended_below = ended; locks = locks } in
    ap (λ z. made z x.secret x.epoch x.next_instance x.ended_below x.nodes x.sessions x.locks) (same_bytes x.cell y.cell os.0)
    ∙ ap (λ z. made y.cell z x.epoch x.next_instance x.ended_below x.nodes x.sessions x.locks) (same_bytes x.secret y.secret os.1)
    ∙ ap (λ z. made y.cell y.secret z x.next_instance x.ended_below x.nodes x.sessions x.locks) (eqb-true _ _ os.2)
    ∙ ap (λ z. made y.cell y.secret y.epoch z x.ended_below x.nodes x.sessions x.locks) (eqb-true _ _ os.3)
    ∙ ap (λ z. made y.cell y.secret y.epoch y.next_instance z x.nodes x.sessions x.locks) (eqb-true _ _ os.4)
    ∙ ap (λ z. made y.cell y.secret y.epoch y.next_instance y.ended_below z x.sessions x.locks) (all_by same_stored stored_same x.nodes y.nodes parts.1)
    ∙ ap (λ z. made y.cell y.secret y.epoch y.next_instance y.ended_below y.nodes z x.locks) (all_by same_session session_same x.sessions y.sessions parts.2)
    ∙ ap (λ z. made y.cell y.secret y.epoch y.next_instance y.ended_below y.nodes y.sessions z) (all_by same_lock lock_same x.locks y.locks parts.3)
