pub mod MissingRights
mod ToldHandles
mod Appended
mod LocksPut
mod DepartedClients
