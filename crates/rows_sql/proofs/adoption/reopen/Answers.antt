use Rattle.std.proofs.Common.{refl}
use Rattle.rows_sql.proofs.Adoptions.{fresh, reopened}
use Rattle.rows_sql.proofs.adoption.reopen.Goals as goal

pub open_store-requires : goal.open_store-requires
open_store-requires g c clean =
    fresh g.S.Store (λ s. g.met.S.Store.broken_if_shut s) c.args.conn.store c.into_store-store.result c.into_store-store.ensures.undone c.is_broken.result c.is_broken.ensures c.if-is_broken.false c.into_store-store.ensures.numbered clean

pub returns-in-Ok-clause-ok : goal.returns-in-Ok-clause-ok
returns-in-Ok-clause-ok g c =
    reopened g.S.Store (λ s. g.met.S.Store.broken_if_shut s) c.args.conn.store c.into_store-store.result c.into_store-store.ensures.undone c.is_broken.result c.is_broken.ensures c.if-is_broken.false
    (λ s db o m. g.met.S.Store.settled s db o m) (λ s o. g.met.S.Store.stays s o) c.args.conn c.in-Ok.conn refl c.schema-schema.ensures.live c.into_store-store.ensures.quiet c.in-Ok.ensures.ok c.in-Ok.ensures.clean c.in-Ok.ensures.trees
