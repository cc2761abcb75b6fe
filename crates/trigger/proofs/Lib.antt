pub mod TriggerCode
