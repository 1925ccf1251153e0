-- What is noted of an open handle.
use Rattle.std.specs.Prelude.{ℕ, List}
use Rattle.tags_cell.specs.declared.handles.Handle.{Handle}

-- the handle, and the bytes that its client shows for it
pub record NotedHandle : Type 0 where
  pub handle : Handle
  pub bytes : List ℕ
