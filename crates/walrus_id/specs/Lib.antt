pub mod HashKeys
