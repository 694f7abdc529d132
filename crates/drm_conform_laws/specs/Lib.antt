pub mod RunLogs
